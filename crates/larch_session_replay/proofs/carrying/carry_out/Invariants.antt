use Rattle.std.proofs.Common.{◌≡◌, ◌+◌, drop}
use Rattle.larch_session_replay.proofs.Carried.{Carried}
use Rattle.larch_session_replay.proofs.carrying.carry_out.Given as goal

-- the state is one of what the commands so far have come to, each of which was a step
abbrev pub invariant-loop-command : goal.invariant-loop-command
invariant-loop-command g l =
    Carried l.fn.state l.state (drop l.command-index l.commands) l.commands
    × ((l.steps ≡ l.fn.steps + l.command-index) × (l.taken ≡ 1 + l.command-index))
