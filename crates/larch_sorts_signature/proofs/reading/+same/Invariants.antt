use Rattle.std.proofs.Common.{◌≡◌, ◌+◌, ◌*◌, take, sum_by}
use Rattle.larch_term.specs.Tree.{nodes}
use Rattle.larch_sorts_signature.proofs.reading.+same.Given as goal

-- the nodes that are left
abbrev pub decreases-same_reading : goal.decreases-same_reading
decreases-same_reading l = 2 * nodes l.left.now

abbrev pub decreases-same_readings : goal.decreases-same_readings
decreases-same_readings l = 2 * sum_by nodes l.left.now + 1

-- the readings so far are equal
abbrev pub invariant-same_readings-loop-i : goal.invariant-same_readings-loop-i
invariant-same_readings-loop-i l = take l.i l.left ≡ take l.i l.right
