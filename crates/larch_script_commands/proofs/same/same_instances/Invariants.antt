use Rattle.std.proofs.Common.{◌≡◌, map, take}
use Rattle.larch_script_commands.specs.Bare.{bare_instance}
use Rattle.larch_script_commands.proofs.same.same_instances.Given as goal

-- what was compared so far is equal
abbrev pub invariant-loop-i : goal.invariant-loop-i
invariant-loop-i l = map bare_instance (take l.i l.left) ≡ map bare_instance (take l.i l.right)
