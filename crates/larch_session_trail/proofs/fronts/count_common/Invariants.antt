use Rattle.std.proofs.Common.{◌≡◌, ◌+◌, drop}
use Rattle.larch_prove_meaning.specs.Scripts.{commands_of}
use Rattle.larch_session_trail.proofs.fronts.count_common.Given as goal
use Rattle.larch_session_trail.specs.Trail.{common}

-- the commands so far stand in both, and further ones as far as they go
abbrev pub invariant-loop-number : goal.invariant-loop-number
invariant-loop-number l =
    common (commands_of l.before) (commands_of l.now)
    ≡ l.number + common (commands_of (drop l.number l.before)) (commands_of (drop l.number l.now))
