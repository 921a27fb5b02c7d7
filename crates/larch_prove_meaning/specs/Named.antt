-- Proofs whose facts have different names on each level, with numbers that were given before.
use Rattle.std.specs.Prelude.{◌≡◌, ◌≢◌, ◌<◌, ℕ, List, ◌∷◌, All}
use Rattle.std.specs.List.{AllPairs}
use Rattle.larch_base.specs.declared.fact_name.FactLetter.TheVariants.{Derived, Hypothesis}
use Rattle.larch_prove_meaning.specs.Facts.{Fact}
use Rattle.larch_prove_meaning.specs.Levels.{EarlierDuty, Level, Proof}

-- no two facts have one name
abbrev pub HaveDifferentNames : List Fact → Type 0
HaveDifferentNames facts = AllPairs (λ f g. f.name ≢ g.name) facts

-- a hypothesis has a number below a first one, and what a command derived has one below a second
abbrev pub HasGivenNumber : ℕ → ℕ → Fact → Type 0
HasGivenNumber h d fact =
    (fact.name.letter ≡ Hypothesis → fact.name.number < h) × (fact.name.letter ≡ Derived → fact.name.number < d)

-- the facts of a level have different names, and their numbers were given before these
pub record IsNamedLevel (h d : ℕ) (level : Level) : Type 0 where
  pub different : HaveDifferentNames level.facts.rules
  pub given : All (HasGivenNumber h d) level.facts.rules

-- so have those of all levels of a proof
abbrev pub IsNamedProof : Proof → Type 0
IsNamedProof p = All (IsNamedLevel p.next_hypothesis p.next_derived) (p.current ∷ p.below)

-- no two lemmas have one number
abbrev pub HaveDifferentNumbers : List EarlierDuty → Type 0
HaveDifferentNumbers lemmas = AllPairs (λ l m. l.number ≢ m.number) lemmas
