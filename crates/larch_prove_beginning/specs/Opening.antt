-- What a duty opens with, by its facts, its goal and its hypotheses alone.
use Rattle.std.specs.Prelude.{◌≡◌, ℕ, Bool, false, List, [], fold, Result, Ok}
use Rattle.larch_base.specs.declared.code.Code.{Code}
use Rattle.larch_order.specs.Precedence.{with_constant}
use Rattle.larch_order.specs.declared.precedence.Ranked.{Ranked}
use Rattle.larch_prove_beginning.specs.Beginning.{duty_in, unopened_proof}
use Rattle.larch_prove_beginning.specs.Goal.{IsPosed, Posed, goal_of, taken_by}
use Rattle.larch_prove_beginning.specs.Level.{IsForGoal, level_by, opened_in}
use Rattle.larch_prove_beginning.specs.declared.duty.FirstDraft.{FirstDraft}
use Rattle.larch_prove_beginning.specs.declared.duty.Preamble.{Preamble}
use Rattle.larch_prove_beginning.specs.declared.duty.WholeDuty.{WholeDuty}
use Rattle.larch_derive.specs.Predicates.{Extends}
use Rattle.larch_derive.specs.declared.builder.Builder.{Builder}
use Rattle.larch_prove_beginning.specs.declared.goal.FirstGoal.{FirstGoal}
use Rattle.larch_prove_beginning.specs.declared.level.FirstLevel.{FirstLevel}
use Rattle.larch_prove_beginning.specs.declared.level.GoalLevel.{GoalLevel}
use Rattle.larch_prove_settling.specs.ProveDraftDraft.{Stands}
use Rattle.larch_prove_settling.specs.ProveDraftDraftDraft.{Draft}
use Rattle.larch_prove_opening.specs.ProveInvariantBook.{Kept}
use Rattle.larch_prove_opening.specs.ProveInvariantHolding.{IsStart}
use Rattle.larch_prove_settling.specs.ProveLevelsOpened.{Opened}
use Rattle.larch_prove_meaning.specs.Facts.{Facts, no_facts}
use Rattle.larch_prove_meaning.specs.Levels.{OfDuty, Proof}
use Rattle.larch_prove_meaning.specs.Replays.{Duty}
use Rattle.larch_prove_opening.specs.FirstFacts.{first_facts}
use Rattle.larch_sorts_meaning.specs.Scope.{Variables}
use Rattle.larch_store.specs.Numbered.{Numbered}
use Rattle.larch_base_meaning.specs.Steps.{after}

-- the goal of a duty, where variables are in scope
abbrev pub posed_in : Duty → Variables → Posed
posed_in duty scope = goal_of duty.statement (taken_by duty.theory scope) scope

-- the precedence with what is new in a goal
abbrev pub ranks_with : List Ranked → Posed → List Ranked
ranks_with ranks g = fold with_constant ranks g.constants

-- the level of a goal, with the facts with which its duty opens
abbrev pub opened_with : List Ranked → ℕ → Posed → Facts → Result Opened Code
opened_with ranks limit g facts = level_by (ranks_with ranks g) limit facts g.supposed g.goal

-- how a duty opens
abbrev pub first_opened : Duty → Variables → List Ranked → ℕ → Result Opened Code
first_opened duty scope ranks limit =
    after (first_facts ranks limit duty.theory.statements duty.lemmas no_facts)
    (opened_with ranks limit (posed_in duty scope))

-- the proof in which a goal was opened so
abbrev pub proof_with : Proof → Posed → Opened → Proof
proof_with p g o = record p {
  current = record { purpose = OfDuty; facts = o.supposed.facts; goal = o.goal; remaining = [] };
  scope = g.scope;
  constants = g.constants;
  ranks = ranks_with p.ranks g;
  next_hypothesis = o.supposed.next;
}

abbrev pub first_proof : Duty → Variables → List Ranked → ℕ → Bool → Opened → Proof
first_proof duty scope ranks limit checking o =
    proof_with (unopened_proof duty scope ranks limit checking) (posed_in duty scope) o

-- the draft of a builder and its lowest level
pub record IsDraftOf (b : Builder) (first : FirstLevel) (checking : Bool) (d : Draft) : Type 0 where
  pub builder : d.builder ≡ b
  pub current : d.current ≡ first.level
  pub below : d.below.items ≡ []
  pub undone : d.is_proved ≡ false
  pub checking_is : d.checking ≡ checking
  pub waiting : d.waiting.items ≡ []
  pub hypothesis : d.next_hypothesis ≡ first.next
  pub derived : d.next_derived ≡ 1

-- A level stands so: its goal is the duty's, and what was opened is there. The precedence was one and is another.
pub record IsLevelOf (d : WholeDuty) (m : Preamble) (before ranks : List Ranked) (store : List Numbered) (b : Builder)
    (l : GoalLevel) : Type 0 where
  pub outside : Builder
  pub inside : Builder
  pub goal : FirstGoal
  pub start : IsStart d.whole.now outside
  pub posed_so : IsPosed d.whole.now outside inside d.statement.now (posed_in (duty_in d) m.scope.now) goal
  pub further : Extends inside b
  pub level : IsForGoal store b goal.beginning l.first.level
  pub opens : first_opened (duty_in d) m.scope.now before m.limit ≡ Ok (opened_in l.first.level l.first.next)
  pub constants : l.constants ≡ (posed_in (duty_in d) m.scope.now).constants
  pub scope : l.scope ≡ (posed_in (duty_in d) m.scope.now).scope
  pub ranks_are : ranks ≡ ranks_with before (posed_in (duty_in d) m.scope.now)

-- A draft stands so before it is looked at whether its goal is proved: what was opened is there, and a builder holds
-- the proof. The precedence was one and is another.
pub record IsStarted (d : WholeDuty) (m : Preamble) (before ranks : List Ranked) (store : List Numbered)
    (f : FirstDraft) : Type 0 where
  pub opened : Opened
  pub opens : first_opened (duty_in d) m.scope.now before m.limit ≡ Ok opened
  pub kept : Kept
  pub stands : Stands d.whole.now d.statement.now store f.draft
      (first_proof (duty_in d) m.scope.now before m.limit m.checking opened) kept []
  pub constants : f.constants ≡ (posed_in (duty_in d) m.scope.now).constants
  pub scope : f.scope ≡ (posed_in (duty_in d) m.scope.now).scope
  pub ranks_are : ranks ≡ ranks_with before (posed_in (duty_in d) m.scope.now)
