use Rattle.std.proofs.Common.{◌≡◌, ◌≤◌, ◌+◌, ◌++◌, List, Result, length, take}
use Rattle.larch_prove_meaning.specs.Levels.{Proof}
use Rattle.larch_prove_meaning.specs.Replays.{Refusal}
use Rattle.larch_prove_meaning.specs.Scripts.{commands_of}
use Rattle.larch_script_commands.specs.declared.command.CommandKind.{CommandKind}
use Rattle.larch_session_trail.proofs.trail.Trail.go_on.Given as goal
use Rattle.larch_session_trail.specs.Trail.{IsTrailOf, later_in}
use Rattle.larch_term.specs.declared.statement.Statement.{Statement}

-- the states are those of the block with the commands so far; each of these took a step, or none did
abbrev pub invariant-loop-command : goal.invariant-loop-command
invariant-loop-command g l =
    ((s : Statement) (answer : Result Proof Refusal) (block : List CommandKind) → IsTrailOf s answer block l.fn.self
    → IsTrailOf s answer (block ++ commands_of (take l.command-index l.commands)) l.self)
    × ((l.steps + length (later_in l.fn.self) ≡ l.fn.steps + length (later_in l.self))
    × ((l.fn.steps ≤ l.steps) × (l.steps ≤ l.fn.steps + l.command-index)))
