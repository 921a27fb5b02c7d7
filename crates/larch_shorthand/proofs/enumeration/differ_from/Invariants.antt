use Rattle.std.proofs.Common.{◌≡◌, take, map}
use Rattle.larch_shorthand.specs.Enumeration.{differ}
use Rattle.larch_shorthand.proofs.enumeration.differ_from.Given as goal

-- the statements so far
abbrev pub invariant-loop-other : goal.invariant-loop-other
invariant-loop-other l = l.statements ≡ map (differ l.unequal l.first) (take l.other-index l.others)
