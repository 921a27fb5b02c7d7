-- The lowest level as it is opened.
use Rattle.std.specs.Prelude.{◌≡◌, ℕ, IsTrue, List, [], All, None, Result}
use Rattle.larch_base.specs.declared.code.Code.{Code}
use Rattle.larch_derive.specs.Predicates.{HasEquation}
use Rattle.larch_derive.specs.declared.builder.Builder.{Builder}
use Rattle.larch_order.specs.declared.precedence.Ranked.{Ranked}
use Rattle.larch_prove_opening.specs.ProveAddingEquation.{IsSaid}
use Rattle.larch_prove_opening.specs.ProveAddingKeptFacts.{KeptFacts, facts_of, lines_of}
use Rattle.larch_prove_opening.specs.ProveAddingEquationSaidEquation.{SaidEquation}
use Rattle.larch_prove_settling.specs.ProveBoxesBeginningBeginning.{Beginning}
use Rattle.larch_prove_opening.specs.ProveInvariantHolding.{HasAbsurd, HasFacts}
use Rattle.larch_prove_settling.specs.ProveLevelsLevel.{IsReady}
use Rattle.larch_prove_settling.specs.ProveLevelsOpened.{Opened, normal_by}
use Rattle.larch_prove_settling.specs.ProveLevelsSupposing.{with_hypotheses}
use Rattle.larch_prove_settling.specs.ProveLevelsLevelLevel.{Level}
use Rattle.larch_prove_settling.specs.ProveLevelsLevelPurpose.TheVariants.{OfDuty}
use Rattle.larch_prove_meaning.specs.Facts.{Facts}
use Rattle.larch_rewrite_meaning.specs.Sides.{Sides}
use Rattle.larch_store.specs.Numbered.{Numbered, term_of}
use Rattle.larch_store.specs.Stored.{Belongs}
use Rattle.larch_term.specs.Tree.{Tree}
use Rattle.larch_base_meaning.specs.Steps.{after}

-- with facts, hypotheses are supposed from the first number on, and the goal gets its normal form
abbrev pub level_by : List Ranked → ℕ → Facts → List Sides → Tree → Result Opened Code
level_by ranks limit facts hs goal =
    after (with_hypotheses ranks limit hs (record { facts = facts; next = 1 })) (normal_by limit goal)

-- what was opened, as a level has it, with the number of the next hypothesis
abbrev pub opened_in : Level → ℕ → Opened
opened_in level next = record {
  supposed = record { facts = facts_of level.facts; next = next };
  goal = term_of level.goal.term;
}

-- where the level begins, lines say the facts
pub record HasAll (b : Builder) (facts : KeptFacts) : Type 0 where
  pub facts_are : HasFacts b (facts_of facts).rules (lines_of facts)
  pub absurd : IsTrue (facts_of facts).contradictory → HasAbsurd b facts.absurd

-- and its hypotheses, and that its goal equals itself
pub record MayEnter (b : Builder) (facts : KeptFacts) (m : Beginning) (hs : List SaidEquation) : Type 0 where
  pub facts_said : HasAll b facts
  pub hypotheses : All (IsSaid b) hs
  pub way : HasEquation b m.way m.first m.first

-- a level has begun so: it can be worked on, and has no boxes but that by which it was entered
pub record IsForGoal (store : List Numbered) (b : Builder) (m : Beginning) (level : Level) : Type 0 where
  pub purpose : level.purpose ≡ OfDuty
  pub first : term_of level.first ≡ m.first
  pub entrance : level.entrance ≡ m.entrance
  pub extras : level.extras ≡ []
  pub running : level.running ≡ None
  pub belongs : Belongs store level.first
  pub ready : IsReady store b level
