-- The state of a proof: its levels, and how goals are opened and proved.
use Rattle.std.specs.Prelude.{ℕ, ◌+◌, ◌||◌, Bool, true, false, if◌then◌else◌, List, [], ◌∷◌, ◌++◌, sum_by, length}
use Rattle.std.specs.Prelude.{fold, Result, Ok, Err}
use Rattle.std.specs.List.{flat_map}
use Rattle.larch_base.specs.declared.code.Code.{Code}
use Rattle.larch_base.specs.declared.code.Code.TheVariants.{Limit, Size}
use Rattle.larch_base.specs.declared.fact_name.FactLetter.TheVariants.{Derived, Hypothesis}
use Rattle.larch_base.specs.declared.fact_name.FactName.{FactName}
use Rattle.larch_term.specs.Operator.{PlainOperator}
use Rattle.larch_term.specs.Tree.{Tree}
use Rattle.larch_term.specs.Equality.{same_tree}
use Rattle.larch_term.specs.Truth.{truth}
use Rattle.larch_term.specs.declared.statement.Statement.{Statement}
use Rattle.larch_term.specs.declared.statement.Theory.{Theory}
use Rattle.larch_base_meaning.specs.Steps.{after}
use Rattle.larch_sorts_meaning.specs.Scope.{Variables}
use Rattle.larch_order.specs.Precedence.{with_constant}
use Rattle.larch_order.specs.declared.precedence.Ranked.{Ranked}
use Rattle.larch_rewrite_meaning.specs.Work.{Work, Made, OverLimit, OverSize}
use Rattle.larch_rewrite_meaning.specs.Sides.{Sides}
use Rattle.larch_rewrite_meaning.specs.NormalForm.{normal}
use Rattle.larch_prove_meaning.specs.Facts.{Facts, Fact, add, rules_of, whole_name}
use Rattle.larch_prove_meaning.specs.Plans.{Subgoal, Plan, holds}

-- what a level's goal is: the duty's, a subgoal of the method below, or a formula that a command proves
pub data Purpose : Type 0 where
  OfDuty : Purpose
  OfSubgoal : Purpose
  OfProof : Tree → Purpose

-- a level: its purpose, its facts, its goal, and the subgoals of its method that are still to be opened
pub record Level : Type 0 where
  pub purpose : Purpose
  pub facts : Facts
  pub goal : Tree
  pub remaining : List Subgoal

-- an earlier duty of the trait that was proved: its number, and what it states
pub record EarlierDuty : Type 0 where
  pub number : ℕ
  pub statement : Statement

-- A proof: the theory and the lemmas; the current level and those below it, the nearest first; whether all is proved;
-- variables in scope; the constants that it has made, the precedence, the rewriting limit; how many commands it has
-- taken; whether boxes are checked, and which marks wait, proved ones being true; and the next numbers of facts.
pub record Proof : Type 0 where
  pub theory : Theory
  pub lemmas : List EarlierDuty
  pub current : Level
  pub below : List Level
  pub is_proved : Bool
  pub scope : Variables
  pub constants : List PlainOperator
  pub ranks : List Ranked
  pub limit : ℕ
  pub commands : ℕ
  pub checking : Bool
  pub waiting : List Bool
  pub next_hypothesis : ℕ
  pub next_derived : ℕ

-- how a step goes on
abbrev pub Next : Type 0
Next = Proof → Result Proof Code

-- work within a step: its events are refusals, and what is left of its budget isn't kept
abbrev pub work_result : {A : Type 0} → Work A → Result A Code
work_result (Made x b) = Ok x
work_result OverLimit = Err Limit
work_result OverSize = Err Size

-- a refusal, unless a test is passed
abbrev pub unless : {A : Type 0} → Code → Bool → Result A Code → Result A Code
unless code true answer = answer
unless code false answer = Err code

-- a level's goal is proved where it is true or the facts contradict each other
abbrev pub is_settled : Level → Bool
is_settled level = same_tree level.goal truth || level.facts.contradictory

-- the proof with other facts in its current level
abbrev pub with_facts : Facts → Proof → Proof
with_facts facts p = record p { current = record p.current { facts = facts } }

-- the proof with another goal in its current level
abbrev pub with_goal : Tree → Proof → Proof
with_goal goal p = record p { current = record p.current { goal = goal } }

-- one mark more waits, where boxes are checked
abbrev pub with_mark : Bool → Proof → Proof
with_mark proved p = record p { waiting = if p.checking then p.waiting ++ proved ∷ [] else p.waiting }

-- the current level's facts with an equation more, some of them serving as rules
abbrev pub added_by : (Fact → Bool) → FactName → Sides → Next
added_by serves name e p =
    after (work_result (add (record { serves = serves; ranks = p.ranks; name = name }) e p.current.facts p.limit))
    (λ facts. Ok (with_facts facts p))

-- all facts serve as rules
abbrev pub all_serve : Fact → Bool
all_serve fact = true

-- the current level's facts with an equation more
abbrev pub add_equation : FactName → Sides → Next
add_equation name e p = added_by all_serve name e p

-- the current goal in normal form
abbrev pub normal_goal : Next
normal_goal p =
    after (work_result (normal (rules_of p.current.facts.rules) p.current.goal p.limit)) (λ g. Ok (with_goal g p))

-- a hypothesis more; it takes its number when its adding begins
abbrev pub suppose : Sides → Next
suppose e p =
    add_equation (whole_name Hypothesis p.next_hypothesis) e (record p { next_hypothesis = p.next_hypothesis + 1 })

abbrev pub all_supposed : List Sides → Next
all_supposed [] p = Ok p
all_supposed (e ∷ es) p = after (suppose e p) (λ q. all_supposed es q)

-- an equation that a command adds, some facts serving as rules; it takes its number when its adding begins, and behind
-- it the goal is normalised
abbrev pub derived_by : (Fact → Bool) → Sides → Next
derived_by serves e p =
    after (added_by serves (whole_name Derived p.next_derived) e (record p { next_derived = p.next_derived + 1 }))
    normal_goal

abbrev pub derive : Sides → Next
derive e p = derived_by all_serve e p

-- a level for a goal, with the facts of another level
abbrev pub level_for : Purpose → Level → Tree → Level
level_for purpose parent goal = record { purpose = purpose; facts = parent.facts; goal = goal; remaining = [] }

-- a subgoal is opened on a parent: its hypotheses are added in order, and then its goal is normalised
abbrev pub open_subgoal : Level → List Level → Subgoal → Next
open_subgoal parent below s p =
    let q = with_mark false (record p { current = level_for OfSubgoal parent s.goal; below = parent ∷ below }) in
    after (all_supposed s.hypotheses q) normal_goal

-- the subgoals of a parent are opened in turn until one isn't proved at once; behind the last the parent is done
abbrev pub opened_from : Next → Level → List Level → List Subgoal → Next
opened_from done parent below [] p = done p
opened_from done parent below (s ∷ ss) p =
    after (open_subgoal (record parent { remaining = ss }) below s p) (λ q. elim (is_settled q.current) [
      | true ↦ opened_from done parent below ss (with_mark true q)
      | false ↦ Ok q
    ])

-- A level is proved, and these stand below it: the next subgoal is opened, or the level below is proved by it; a
-- formula that a command proved is added to the level below, which may be proved by that. Behind the last level all is
-- proved, and nothing remains.
abbrev pub rise : List Level → Level → Next
rise [] level p =
    Ok (with_mark true (record p { current = record level { remaining = [] }; below = []; is_proved = true }))
rise (parent ∷ below) level p = elim level.purpose [
  -- never: nothing stands below the duty's level
  | OfDuty ↦ Ok p
  | OfSubgoal ↦ opened_from (λ q. rise below parent q) parent below parent.remaining (with_mark true p)
  | OfProof f ↦
      after (derive (holds f) (with_mark true (record p { current = parent; below = below })))
      (λ q. elim (is_settled q.current) [
        | true ↦ rise below q.current q
        | false ↦ Ok q
      ])
]

-- where the current goal is proved, what that leads to
abbrev pub settle_goal : Next
settle_goal p = elim (is_settled p.current) [
  | true ↦ rise p.below p.current p
  | false ↦ Ok p
]

-- the proof with new constants, each of which the precedence puts below those before
abbrev pub with_constants : List PlainOperator → Proof → Proof
with_constants cs p = record p { constants = p.constants ++ cs; ranks = fold with_constant p.ranks cs }

-- all constants of a plan, those of one subgoal behind those of the other
abbrev pub all_constants : Plan → List PlainOperator
all_constants plan = plan.constants ++ flat_map (λ s. s.constants) plan.subgoals

-- a method begins: its constants are made, and its subgoals are opened on the current level
abbrev pub begun : Plan → Next
begun plan p =
    opened_from (λ q. rise p.below p.current q) p.current p.below plan.subgoals
    (with_constants (all_constants plan) p)

-- how many goals are open: the current one, and all remaining subgoals
abbrev pub open_goals : Proof → ℕ
open_goals p = 1 + sum_by (λ level. length level.remaining) (p.current ∷ p.below)
