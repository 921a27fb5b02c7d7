-- How a method is carried out on the current goal.
use Rattle.std.specs.Prelude.{◌≡◌, ℕ, List, ◌++◌, Ok}
use Rattle.std.specs.List.{flat_map}
use Rattle.larch_base.specs.declared.code.Code.TheVariants as code
use Rattle.larch_order.specs.declared.precedence.Ranked.{Ranked}
use Rattle.larch_prove_work.specs.ProveDraftDraft.{Stands}
use Rattle.larch_prove_work.specs.ProveDraftProving.{IsOver}
use Rattle.larch_prove_work.specs.ProveDraftDraftDraft.{Draft}
use Rattle.larch_prove_work.specs.ProveInvariantBook.{Kept}
use Rattle.larch_prove_work.specs.ProveInvariantHolding.{IsKnownFor, theory_for}
use Rattle.larch_prove_work.specs.ProveLevelsLevelPlanned.{Planned}
use Rattle.larch_prove_meaning.specs.Levels.{Proof, all_constants, with_constants}
use Rattle.larch_prove_meaning.specs.Plans.{Plan, plan}
use Rattle.larch_prove_meaning.specs.Steps.{setting_of}
use Rattle.larch_prove_meaning.specs.WellSorted.{IsWellSortedProof}
use Rattle.larch_prove_plans.specs.Planning.{method_of, plan_of}
use Rattle.larch_prove_plans.specs.declared.refusal.PlanRefusal.{PlanRefusal}
use Rattle.larch_prove_plans.specs.declared.refusal.PlanRefusal.TheVariants as unplanned
use Rattle.larch_prove_plans.specs.declared.subgoals.Method.{Method}
use Rattle.larch_prove_plans.specs.declared.subgoals.Plan as stated
use Rattle.larch_prove_work.specs.ProveSettingsRefusalCommandRefusal.{CommandRefusal}
use Rattle.larch_prove_work.specs.ProveSettingsRefusalCommandRefusal.TheVariants.{Memory, Wrong}
use Rattle.larch_prove_work.specs.Work.{MayWork}
use Rattle.larch_prove_work.specs.declared.work.Work.{Work}
use Rattle.larch_store.specs.Numbered.{Numbered}
use Rattle.larch_term.specs.Operator.{PlainOperator}
use Rattle.larch_term.specs.declared.statement.Statement.{Statement}
use Rattle.larch_term.specs.declared.statement.Theory.{Theory}

-- the refusal of a command whose method has no plan
abbrev pub plan_refusal : PlanRefusal → CommandRefusal
plan_refusal unplanned.Shape = Wrong code.Shape
plan_refusal unplanned.Variable = Wrong code.Variable
plan_refusal unplanned.Generated = Wrong code.Generated
plan_refusal unplanned.Partitioned = Wrong code.Partitioned
plan_refusal unplanned.Memory = Memory

-- all constants of a plan of the code
abbrev pub constants_in : stated.Plan → List PlainOperator
constants_in made = made.constants ++ flat_map (λ g. g.constants) made.subgoals

-- a method can be carried out on what is worked on: what it is carried out with can be written
pub record MayResume (t : Theory) (s : Statement) (w : Work) (method : Method) (p : Proof) : Type 0 where
  pub may_work : MayWork t s w p
  pub known : IsKnownFor w.draft.builder (method_of method)

abbrev pub IsSomeResuming : Theory → Statement → Work → Method → Type 0
IsSomeResuming t s w method = (p : Proof) × MayResume t s w method p

-- the code has planned what the definition plans for the current goal of a proof
pub record IsPlannedFor (p : Proof) (planned : Planned) (made : Plan) : Type 0 where
  pub plans : plan (setting_of p) p.current.goal (method_of planned.method) ≡ Ok made
  pub same : planned.plan ≡ plan_of made

abbrev pub IsSomePlanned : Theory → Statement → Work → Planned → Type 0
IsSomePlanned t s w planned =
    (p : Proof) × ((made : Plan) × (MayResume t s w planned.method p × IsPlannedFor p planned made))

-- a draft of a proof stands before a method begins that was planned
pub record StandsBefore (t : Theory) (s : Statement) (store : List Numbered) (d : Draft) (p : Proof) (k : Kept)
    (ks : List Kept) (planned : Planned) (made : Plan) : Type 0 where
  pub whole : theory_for p ≡ t
  pub stands : Stands t s store d p k ks
  pub sorted : IsWellSortedProof p
  pub known : IsKnownFor d.builder (method_of planned.method)
  pub planned_for : IsPlannedFor p planned made

-- so it is of some proof, over a theory with the precedence and the limit behind the constants of the plan
abbrev pub IsSomeStart : Theory → Statement → List Ranked → ℕ → List Numbered → Draft → Planned → Type 0
IsSomeStart t s ranks limit store d planned =
    (p : Proof) × ((k : Kept) × ((ks : List Kept) × ((made : Plan)
    × (IsOver t ranks limit (with_constants (all_constants made) p)
    × StandsBefore t s store d p k ks planned made))))
