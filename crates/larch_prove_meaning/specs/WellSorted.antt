-- Proofs whose goals, facts and remaining subgoals are well sorted on all levels, and whose scope has each name once.
use Rattle.std.specs.Prelude.{◌≡◌, ◌≢◌, List, ◌∷◌, All}
use Rattle.std.specs.List.{AllPairs}
use Rattle.larch_term.specs.Operator.{PlainOperator}
use Rattle.larch_term.specs.Statement.{IsStatementOver, IsWellSortedTheory}
use Rattle.larch_rewrite_meaning.specs.CalculusTheories.{IsFront}
use Rattle.larch_sorts_meaning.specs.Scope.{Variables}
use Rattle.larch_pairs_critical.specs.Overlap.{IsApplication}
use Rattle.larch_rewrite_meaning.specs.Sides.{AreSidesOver}
use Rattle.larch_prove_meaning.specs.Facts.{Fact}
use Rattle.larch_prove_meaning.specs.Levels.{EarlierDuty, Level, OfDuty, OfProof, OfSubgoal, Proof, Purpose}
use Rattle.larch_prove_meaning.specs.Plans.{IsFormulaOver, IsSubgoalOver}
use Rattle.larch_prove_meaning.specs.Replays.{Duty}
use Rattle.larch_prove_meaning.specs.Steps.{own_operators}

-- a fact is well sorted over operators, and its left side is no variable
abbrev pub IsFactOver : List PlainOperator → Fact → Type 0
IsFactOver fs fact = AreSidesOver fs fact.sides × IsApplication fact.sides.left

-- a formula that a command proves is well sorted over operators
abbrev pub IsPurposeOver : List PlainOperator → Purpose → Type 0
IsPurposeOver fs OfDuty = Unit {0}
IsPurposeOver fs OfSubgoal = Unit {0}
IsPurposeOver fs (OfProof f) = IsFormulaOver fs f

-- all that a level has is well sorted over operators
pub record IsLevelOver (fs : List PlainOperator) (level : Level) : Type 0 where
  pub purpose : IsPurposeOver fs level.purpose
  pub facts : All (IsFactOver fs) level.facts.rules
  pub goal : IsFormulaOver fs level.goal
  pub remaining : All (IsSubgoalOver fs) level.remaining

-- lemmas are well sorted over operators
abbrev pub AreLemmasOver : List PlainOperator → List EarlierDuty → Type 0
AreLemmasOver fs lemmas = All (λ lemma. IsStatementOver fs lemma.statement) lemmas

-- what a replay starts from is well sorted over the theory's operators
pub record IsWellSortedDuty (duty : Duty) : Type 0 where
  pub theory : IsWellSortedTheory duty.theory
  pub statement : IsStatementOver duty.theory.operators duty.statement
  pub lemmas : AreLemmasOver duty.theory.operators duty.lemmas

-- no two variables have one name
abbrev pub AreNamedApart : Variables → Type 0
AreNamedApart vs = AllPairs (λ v w. v.0 ≢ w.0) vs

-- the theory and the lemmas are well sorted over the theory's operators, and each level is so over these and the
-- constants of the block; a name in scope has one sort
pub record IsWellSortedProof (p : Proof) : Type 0 where
  pub theory : IsWellSortedTheory p.theory
  pub lemmas : AreLemmasOver p.theory.operators p.lemmas
  pub scope : AreNamedApart p.scope
  pub levels : All (IsLevelOver (own_operators p)) (p.current ∷ p.below)

-- the second proof has the theory and the lemmas of the first, all its constants and maybe more
pub record GoesOn (p q : Proof) : Type 0 where
  pub theory : q.theory ≡ p.theory
  pub lemmas : q.lemmas ≡ p.lemmas
  pub constants : IsFront p.constants q.constants
