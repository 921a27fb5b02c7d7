-- How a command's equation is added to a level, by the level's facts and goal alone.
use Rattle.std.specs.Prelude.{ℕ, ◌+◌, List, Result, Ok, true, false}
use Rattle.larch_base.specs.declared.code.Code.{Code}
use Rattle.larch_base.specs.declared.fact_name.FactLetter.TheVariants.{Derived}
use Rattle.larch_prove_boxes.specs.OrderPrecedenceRanked.{Ranked}
use Rattle.larch_prove_boxes.specs.ProveMeaningFacts.{Facts, add, rules_of, whole_name}
use Rattle.larch_prove_boxes.specs.ProveMeaningLevels.{Level, Next, Proof, all_serve}
use Rattle.larch_prove_boxes.specs.ProveMeaningLevels.{is_settled, with_mark, work_result}
use Rattle.larch_prove_adding.specs.RewriteMeaningNormalForm.{normal}
use Rattle.larch_prove_adding.specs.RewriteMeaningSides.{Sides}
use Rattle.larch_term.specs.Tree.{Tree}
use Rattle.larch_base_meaning.specs.Steps.{after}

-- facts and a goal
pub record Worked : Type 0 where
  pub facts : Facts
  pub goal : Tree

-- the goal in normal form by facts
abbrev pub with_normal_goal : ℕ → Tree → Facts → Result Worked Code
with_normal_goal limit goal facts =
    after (work_result (normal (rules_of facts.rules) goal limit)) (λ g. Ok (record { facts = facts; goal = g }))

-- an equation is added as the one with a number that a command derives, and behind it the goal gets its normal form
abbrev pub derived_in : List Ranked → ℕ → Sides → ℕ → Worked → Result Worked Code
derived_in ranks limit e number level =
    after (work_result (add (record { serves = all_serve; ranks = ranks; name = whole_name Derived number }) e
    level.facts limit))
    (with_normal_goal limit level.goal)

-- what a level has to be worked on
abbrev pub worked_in : Proof → Worked
worked_in p = record { facts = p.current.facts; goal = p.current.goal }

-- the proof in which a command's equation was added
abbrev pub with_derived : Worked → Proof → Proof
with_derived w p = record p {
  current = record p.current { facts = w.facts; goal = w.goal };
  next_derived = p.next_derived + 1;
}

-- the proof on the level below one that is proved
abbrev pub on_parent : Level → List Level → Proof → Proof
on_parent parent below p = with_mark true (record p { current = parent; below = below })

-- a step goes on by whether the current level is proved
abbrev pub if_settled : Next → Next
if_settled next q = elim (is_settled q.current) [
  | true ↦ next q
  | false ↦ Ok q
]
