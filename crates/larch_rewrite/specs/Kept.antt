-- Normal forms that are kept.
use Rattle.std.specs.Prelude.{◌≡◌, ◌⊎◌, ◌-◌, ◌++◌, ◌∷◌, [], ℕ, List}
use Rattle.larch_derive.specs.declared.builder.Builder.{Builder}
use Rattle.larch_rewrite_meaning.specs.Sides.{Sides}
use Rattle.larch_rewrite_law.specs.Costs.{HasCost}
use Rattle.larch_store.specs.Numbered.{Numbered, term_of}
use Rattle.larch_store.specs.Stored.{Belongs}
use Rattle.larch_rewrite_step.specs.DeriveLinesWay.{Leads}
use Rattle.larch_rewrite.specs.declared.kept.KeptForm.{KeptForm}
use Rattle.larch_rewrite.specs.declared.level.Level.{Level}
use Rattle.larch_rewrite.specs.declared.level.Turn.{Turn}
use Rattle.larch_rewrite.specs.declared.level.Turn.TheVariants.{Begin, Arguments, Root, Finish}

-- what is kept belongs to a store
abbrev pub IsOfStore : List Numbered → KeptForm → Type 0
IsOfStore store k = Belongs store k.start × Belongs store k.form

-- it is the normal form by rules, at its cost
abbrev pub IsForm : List Sides → KeptForm → Type 0
IsForm rules k = HasCost rules (term_of k.start) (term_of k.form) k.cost

-- its way leads to it
abbrev pub IsLed : Builder → KeptForm → Type 0
IsLed b k = Leads b k.way (term_of k.start) (term_of k.form)

-- what is to be kept of a level that has come to its normal form, where so much is left of the budget
abbrev pub kept_of : Level → ℕ → KeptForm
kept_of l b = record { start = l.start; form = l.term; cost = l.begun - b; way = l.way }

-- it is kept behind others, or these are enough
abbrev pub IsKeptBehind : List KeptForm → KeptForm → List KeptForm → Type 0
IsKeptBehind old k new = (new ≡ old) ⊎ (new ≡ old ++ k ∷ [])

-- a level that has come to its normal form is kept behind others
abbrev pub IsKeptAt : List KeptForm → Turn → ℕ → List KeptForm → Type 0
IsKeptAt old (Begin l) b new = new ≡ old
IsKeptAt old (Arguments f) b new = new ≡ old
IsKeptAt old (Root l) b new = new ≡ old
IsKeptAt old (Finish l) b new = IsKeptBehind old (kept_of l b) new

-- further ones are kept behind others
abbrev pub IsFront : List KeptForm → List KeptForm → Type 0
IsFront old new = (more : List KeptForm) × (new ≡ old ++ more)
