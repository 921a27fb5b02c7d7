-- The states of a block, one behind the other.
use Rattle.std.specs.Prelude.{◌≡◌, ℕ, suc, if◌then◌else◌, Bool, true, false, List, [], ◌∷◌, map, Result, Ok, Err}
use Rattle.larch_base_meaning.specs.Steps.{after}
use Rattle.larch_prove.specs.State.{IsStateOf}
use Rattle.larch_prove.specs.declared.state.ProofState.{ProofState}
use Rattle.larch_prove_meaning.specs.Levels.{Proof}
use Rattle.larch_prove_meaning.specs.Replays.{Outcome, Proved, Refusal, Refused, Suspended, all_stepped, step_command}
use Rattle.larch_script_commands.specs.Same.{same_kind}
use Rattle.larch_script_commands.specs.declared.command.CommandKind.{CommandKind}
use Rattle.larch_session_trail.specs.declared.trail.Trail.{Trail}
use Rattle.larch_term.specs.declared.statement.Statement.{Statement}

-- what a block has come to is a refusal
abbrev pub is_refused : Result Proof Refusal → Bool
is_refused (Ok p) = false
is_refused (Err refused) = true

-- an outcome is a refusal
abbrev pub is_refusal : Outcome → Bool
is_refusal Proved = false
is_refusal (Suspended goals goal) = false
is_refusal (Refused refused) = true

-- what a command leads to, behind what others have come to
abbrev pub then_command : Result Proof Refusal → CommandKind → Result Proof Refusal
then_command answer c = after answer (λ p. step_command c p)

-- what commands lead to, behind what others have come to
abbrev pub behind : Result Proof Refusal → List CommandKind → Result Proof Refusal
behind answer cs = after answer (λ p. all_stepped cs p)

-- A state is of what the opening of a block has come to, and the later ones of what its commands come to, one by one:
-- up to the last command, or to one that is refused.
abbrev pub AreStates : Statement → Result Proof Refusal → List CommandKind → ProofState → List ProofState → Type 0
AreStates s answer [] first later = IsStateOf s first answer × (later ≡ [])
AreStates s answer (c ∷ cs) first [] = IsStateOf s first answer × (is_refused answer ≡ true)
AreStates s answer (c ∷ cs) first (next ∷ later) =
    IsStateOf s first answer × AreStates s (then_command answer c) cs next later

-- the states behind commands
abbrev pub later_in : Trail → List ProofState
later_in trail = map (λ state. state.value) trail.later.items

-- the states of a trail are those of a block, of a statement, behind what its opening has come to
abbrev pub IsTrailOf : Statement → Result Proof Refusal → List CommandKind → Trail → Type 0
IsTrailOf s answer cs trail = AreStates s answer cs trail.first.value (later_in trail)

-- they are those of some block
abbrev pub IsSomeTrail : Trail → Type 0
IsSomeTrail trail =
    (s : Statement) × ((answer : Result Proof Refusal) × ((cs : List CommandKind) × IsTrailOf s answer cs trail))

-- how many commands stand at the longest common front of two blocks
abbrev pub common : List CommandKind → List CommandKind → ℕ
common [] cs = 0
common (b ∷ bs) [] = 0
common (b ∷ bs) (c ∷ cs) = if same_kind b c then suc (common bs cs) else 0
