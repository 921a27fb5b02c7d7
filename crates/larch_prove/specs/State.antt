-- What a state is, of what the definitions come to.
use Rattle.std.specs.Prelude.{◌≡◌, ℕ, ◌-◌, ◌+◌, true, length, Option, None, Some, Result, Ok, Err}
use Rattle.larch_base.specs.declared.code.Code.{Code}
use Rattle.larch_prove.specs.declared.going.Going.{Going}
use Rattle.larch_prove.specs.declared.outcome.Outcome.{Outcome}
use Rattle.larch_prove.specs.declared.outcome.Outcome.TheVariants.{Proved, Refused, Suspended}
use Rattle.larch_prove.specs.declared.outcome.Place.{Place}
use Rattle.larch_prove.specs.declared.outcome.Place.TheVariants as place
use Rattle.larch_prove.specs.declared.state.Stage.{Stage}
use Rattle.larch_prove.specs.declared.state.Stage.TheVariants as stage
use Rattle.larch_prove.specs.declared.state.ProofState.{ProofState}
use Rattle.larch_prove_resuming.specs.ProveDraftProving.{IsProvable}
use Rattle.larch_prove_resuming.specs.ProveLevelsLevelLevel.{Level}
use Rattle.larch_prove_resuming.specs.ProveLevelsLevelRunning.{Running}
use Rattle.larch_prove_meaning.specs.Levels.{Proof}
use Rattle.larch_prove_meaning.specs.Replays as defined
use Rattle.larch_prove_meaning.specs.Replays.{AtCommand, AtOpening, InPreamble, Refusal, RefusalPlace}
use Rattle.larch_prove_resuming.specs.ProveWorkWork.{IsReached, IsWorkOf, Makes}
use Rattle.larch_term.specs.declared.statement.Statement.{Statement}

-- a place as the definitions have it
abbrev pub place_of : Place → RefusalPlace
place_of (place.Preamble n) = InPreamble n
place_of place.Opening = AtOpening
place_of (place.Command n) = AtCommand n

-- an outcome as the definitions have it
abbrev pub told_outcome : Outcome → defined.Outcome
told_outcome Proved = defined.Proved
told_outcome (Suspended goals goal) = defined.Suspended goals goal
told_outcome (Refused at code) = defined.Refused (record { place = place_of at; code = code })

-- what commands work on is of a proof of the claim, and the proof is one that a replay reaches
pub record Works (going : Going) (p : Proof) : Type 0 where
  pub work : IsWorkOf going.claim.value.theory going.claim.value.statement going.work p
  pub reached : IsReached p

-- so it is of some proof
abbrev pub IsSomeWorks : Going → Type 0
IsSomeWorks going = (p : Proof) × Works going p

-- what is claimed can be proved
abbrev pub IsClaimed : Going → Type 0
IsClaimed going = IsProvable going.claim.value.theory going.claim.value.statement

-- What goes on is of a proof of a statement: its settings and its draft are the proof's, and as many commands were
-- counted.
pub record IsGoingFor (s : Statement) (going : Going) (p : Proof) : Type 0 where
  pub statement : going.claim.value.statement ≡ s
  pub claimed : IsClaimed going
  pub works : Works going p
  pub commands : going.commands ≡ p.commands

-- so it is of some proof
abbrev pub IsSomeGoing : Going → Type 0
IsSomeGoing going = (s : Statement) × ((p : Proof) × IsGoingFor s going p)

-- a block that goes on is of a proof, and one that is refused has the refusal
abbrev pub IsNow : Statement → Stage → Result Proof Refusal → Type 0
IsNow s (stage.Going going) (Ok p) = IsGoingFor s going p
IsNow s (stage.Going going) (Err refused) = ⊥
IsNow s (stage.Refused at code) (Ok p) = ⊥
IsNow s (stage.Refused at code) (Err refused) = refused ≡ record { place = place_of at; code = code }

-- a state of what a block has come to
abbrev pub IsStateOf : Statement → ProofState → Result Proof Refusal → Type 0
IsStateOf s state answer = IsNow s state.stage answer

-- the state is one of a proof that isn't refused
abbrev pub IsGoing : ProofState → Type 0
IsGoing state = (s : Statement) × ((p : Proof) × IsStateOf s state (Ok p))

-- and all is proved
abbrev pub IsProvedState : ProofState → Type 0
IsProvedState state = (s : Statement) × ((p : Proof) × (IsStateOf s state (Ok p) × (p.is_proved ≡ true)))

-- a step leads to a proof, and what goes on is of it
abbrev pub StepsTo : Statement → Going → Result Proof Code → Type 0
StepsTo s going answer = (q : Proof) × ((answer ≡ Ok q) × IsGoingFor s going q)

-- a command leads to a proof, and what is worked on is of it
abbrev pub MakesFor : Going → Proof → Result Proof Code → Type 0
MakesFor going p answer = Makes going.claim.value.theory going.claim.value.statement going.work p answer

-- how many subgoals wait of a method of the code, one being open
abbrev pub waiting_for : Option Running → ℕ
waiting_for None = 0
waiting_for (Some r) = length r.planned.value.plan.subgoals - (length r.left + 1)

abbrev pub waiting_in : Level → ℕ
waiting_in level = waiting_for level.running
