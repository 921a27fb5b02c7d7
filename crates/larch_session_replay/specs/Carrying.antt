-- States behind commands that are carried out until one is refused.
use Rattle.std.specs.Prelude.{Bool, true, false, Result, Ok, Err}
use Rattle.larch_prove.specs.State.{IsStateOf}
use Rattle.larch_prove.specs.declared.state.ProofState.{ProofState}
use Rattle.larch_prove_meaning.specs.Levels.{Proof}
use Rattle.larch_prove_meaning.specs.Replays.{Outcome, Proved, Refusal, Refused, Suspended}
use Rattle.larch_term.specs.declared.statement.Statement.{Statement}

-- the state is one of what some block has come to
abbrev pub IsSomeState : ProofState → Type 0
IsSomeState state = (s : Statement) × ((answer : Result Proof Refusal) × IsStateOf s state answer)

-- what a block has come to is a refusal
abbrev pub is_refused : Result Proof Refusal → Bool
is_refused (Ok p) = false
is_refused (Err refused) = true

-- an outcome is a refusal
abbrev pub is_refusal : Outcome → Bool
is_refusal Proved = false
is_refusal (Suspended goals goal) = false
is_refusal (Refused refused) = true
