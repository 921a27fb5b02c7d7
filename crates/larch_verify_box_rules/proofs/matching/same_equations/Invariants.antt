use Rattle.std.proofs.Common.{◌≡◌, map, take}
use Rattle.larch_verify_history.specs.Past.{equated_in}
use Rattle.larch_verify_box_rules.proofs.matching.same_equations.Given as goal

-- the equations so far are the same
abbrev pub invariant-loop-i : goal.invariant-loop-i
invariant-loop-i l = map (equated_in l.pool) (take l.i l.ones) ≡ map (equated_in l.pool) (take l.i l.others)
