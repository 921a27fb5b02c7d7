-- What lines say stays said.
use Rattle.std.specs.Prelude.{◌≡◌, ℕ, List, [], ◌∷◌, ◌++◌, All, Option, Some, None, map, reverse}
use Rattle.std.proofs.Common.{ap, ◌∙◌}
use Rattle.std.proofs.lemmas.List.{map-append, reverse-append}
use Rattle.std.proofs.lemmas.List.Elements.{All-weaker}
use Rattle.larch_derive.specs.Predicates.{Extends, HasEquation}
use Rattle.larch_derive.specs.declared.builder.Builder.{Builder}
use Rattle.larch_derive.proofs.Growth.{known_left, stays_said}
use Rattle.larch_rewrite.proofs.DeriveLinesWays.{leads_stays}
use Rattle.larch_prove_adding.specs.Equation.{IsSaid, sides_in, waiting_in}
use Rattle.larch_prove_adding.specs.KeptFacts.{AreSaid, KeptFacts, SaysAbsurd}
use Rattle.larch_prove_adding.specs.declared.equation.SaidEquation.{SaidEquation}
use Rattle.larch_prove_invariant.proofs.Knowing.{known_over}
use Rattle.larch_rewrite.specs.Kept.{IsLed}
use Rattle.larch_rewrite.specs.RuleSet.{BelongsTo, IsSaid as IsRuleSaid, RuleSet}
use Rattle.larch_rewrite.specs.declared.kept.KeptForm.{KeptForm}
use Rattle.larch_rewrite.proofs.Stored.{kept_stay}
use Rattle.larch_store.specs.Numbered.{Numbered, term_of}
use Rattle.larch_store.specs.Stored.{Grows}
use Rattle.larch_term.specs.Sorts.{WellSorted}
use Rattle.larch_term.specs.Tree.{Tree}

pub absurd_stays : (a b : Builder) (o : Option ℕ) → Extends a b → SaysAbsurd a o → SaysAbsurd b o
absurd_stays a b None x h = tt
absurd_stays a b (Some n) x h = stays_said a b n _ x h

-- what is said of facts stays said
pub said_stays : (a b : Builder) (k : KeptFacts) → Extends a b → AreSaid a k → AreSaid b k
said_stays a b k x h = (
  (
    All-weaker (IsRuleSaid a) (IsRuleSaid b) (λ r p. stays_said a b r.line _ x p) k.rules.rules h.0.0,
    All-weaker (IsLed a) (IsLed b) (λ (f : KeptForm) p. leads_stays a b f.way (term_of f.start) (term_of f.form) x p)
        k.rules.kept h.0.1,
  ),
  absurd_stays a b k.absurd x h.1,
)

pub equation_stays : (a b : Builder) (e : SaidEquation) → Extends a b → IsSaid a e → IsSaid b e
equation_stays a b e x h = stays_said a b e.line _ x h

pub equations_stay : (a b : Builder) (es : List SaidEquation) → Extends a b → All (IsSaid a) es → All (IsSaid b) es
equations_stay a b es x h = All-weaker (IsSaid a) (IsSaid b) (λ e p. stays_said a b e.line _ x p) es h

-- what is kept stays in the store
pub belongs_further : (s u : List Numbered) (set : RuleSet) → Grows s u → BelongsTo s set → BelongsTo u set
belongs_further s u set g h = kept_stay s u set.kept g h

-- the left side of what a line says is well sorted
pub said_sorted : (b : Builder) (n : ℕ) (l r : Tree) → HasEquation b n l r → WellSorted l
said_sorted b n l r h = (known_over b l (known_left b n l r h)).0

-- the last of equations that wait is the next one
pub last_waits : (es more : List SaidEquation) (e : SaidEquation) → more ≡ es ++ e ∷ []
    → waiting_in more ≡ sides_in e ∷ waiting_in es
last_waits es more e p = ap waiting_in p ∙ ap (map sides_in) (reverse-append es (e ∷ []))

-- equations that were put behind wait before the others
pub more_wait : (es ds : List SaidEquation) → waiting_in (es ++ ds) ≡ waiting_in ds ++ waiting_in es
more_wait es ds = ap (map sides_in) (reverse-append es ds) ∙ map-append sides_in (reverse ds) (reverse es)
