-- Proofs in words: where all that stands in their levels can be written.
use Rattle.std.specs.Prelude.{◌∷◌, All}
use Rattle.larch_derive.specs.Words.{AreWordedOperators, IsWordedTerm, IsWordedTheory}
use Rattle.larch_methods.specs.RewriteMeaningSides.{Sides}
use Rattle.larch_methods.specs.ProveMeaningFacts.{Fact}
use Rattle.larch_methods.specs.ProveMeaningLevels.{Level, Proof}
use Rattle.larch_methods.specs.ProveMeaningPlans.{Subgoal}
use Rattle.larch_prove_invariant.specs.Holding.{theory_for}

-- both sides are in words
abbrev pub AreWordedSides : Sides → Type 0
AreWordedSides e = IsWordedTerm e.left × IsWordedTerm e.right

-- so are those of a fact
abbrev pub IsWordedFact : Fact → Type 0
IsWordedFact fact = AreWordedSides fact.sides

-- a subgoal is in words: the sorts of its constants, its hypotheses and its goal
pub record IsInWords (s : Subgoal) : Type 0 where
  pub constants : AreWordedOperators s.constants
  pub hypotheses : All AreWordedSides s.hypotheses
  pub goal : IsWordedTerm s.goal

-- a level is: its facts, its goal and the subgoals that are still to be opened
pub record IsWordedLevel (level : Level) : Type 0 where
  pub facts : All IsWordedFact level.facts.rules
  pub goal : IsWordedTerm level.goal
  pub remaining : All IsInWords level.remaining

-- a proof is: its theory with the lemmas, the constants of the block and all its levels
pub record IsWordedProof (p : Proof) : Type 0 where
  pub theory : IsWordedTheory (theory_for p)
  pub constants : AreWordedOperators p.constants
  pub levels : All IsWordedLevel (p.current ∷ p.below)
