use Rattle.std.proofs.Common.{◌≡◌, map, take}
use Rattle.larch_script_commands.specs.Bare.{bare}
use Rattle.larch_script_commands.proofs.same.same_commands.Given as goal

-- the commands so far are equal
abbrev pub invariant-loop-i : goal.invariant-loop-i
invariant-loop-i l = map bare (take l.i l.commands) ≡ map bare (take l.i l.others)
