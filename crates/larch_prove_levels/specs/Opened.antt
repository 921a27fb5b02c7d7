-- How a level is opened, by its facts and the number of the next hypothesis alone.
use Rattle.std.specs.Prelude.{ℕ, List, ◌∷◌, Result, Ok, false}
use Rattle.larch_base.specs.declared.code.Code.{Code}
use Rattle.larch_prove_boxes.specs.OrderPrecedenceRanked.{Ranked}
use Rattle.larch_prove_levels.specs.Supposing.{Supposed, with_hypotheses}
use Rattle.larch_prove_boxes.specs.ProveMeaningFacts.{rules_of}
use Rattle.larch_prove_boxes.specs.ProveMeaningLevels.{Level, OfSubgoal, Proof, level_for, with_mark, work_result}
use Rattle.larch_prove_boxes.specs.ProveMeaningPlans.{Subgoal}
use Rattle.larch_prove_adding.specs.RewriteMeaningNormalForm.{normal}
use Rattle.larch_term.specs.Tree.{Tree}
use Rattle.larch_base_meaning.specs.Steps.{after}

-- what was supposed for a goal, and its normal form
pub record Opened : Type 0 where
  pub supposed : Supposed
  pub goal : Tree

-- the goal in normal form, by what is supposed
abbrev pub normal_by : ℕ → Tree → Supposed → Result Opened Code
normal_by limit goal so =
    after (work_result (normal (rules_of so.facts.rules) goal limit)) (λ g. Ok (record { supposed = so; goal = g }))

-- a subgoal's hypotheses are supposed, and then its goal gets its normal form
abbrev pub opened_by : List Ranked → ℕ → Subgoal → Supposed → Result Opened Code
opened_by ranks limit s so = after (with_hypotheses ranks limit s.hypotheses so) (normal_by limit s.goal)

-- what hypotheses are supposed by in a proof
abbrev pub supposing_in : Proof → Supposed
supposing_in p = record { facts = p.current.facts; next = p.next_hypothesis }

-- the proof in which so much is supposed
abbrev pub with_supposed : Supposed → Proof → Proof
with_supposed so p = record p { current = record p.current { facts = so.facts }; next_hypothesis = so.next }

-- the proof whose level was opened so
abbrev pub with_opened : Opened → Proof → Proof
with_opened o p = record p {
  current = record p.current { facts = o.supposed.facts; goal = o.goal };
  next_hypothesis = o.supposed.next;
}

-- a proof with a level for a subgoal upon a parent
abbrev pub with_level : Level → List Level → Subgoal → Proof → Proof
with_level parent below s p =
    with_mark false (record p { current = level_for OfSubgoal parent s.goal; below = parent ∷ below })

-- the proof in which the next subgoal is open
abbrev pub with_next : Level → List Level → Subgoal → List Subgoal → Opened → Proof → Proof
with_next parent below s ss o p = with_opened o (with_level (record parent { remaining = ss }) below s p)
