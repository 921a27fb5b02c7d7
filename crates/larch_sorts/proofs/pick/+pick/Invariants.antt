use Rattle.std.proofs.Common.{◌+◌, ◌*◌, sum_by, take}
use Rattle.larch_raw.specs.RawTree.{raw_nodes}
use Rattle.larch_sorts.proofs.Picked.{PickedAll}
use Rattle.larch_sorts.proofs.pick.+pick.Given as goal

-- the nodes that are left
abbrev pub decreases-picked_at : goal.decreases-picked_at
decreases-picked_at l = 2 * raw_nodes l.raw.now

abbrev pub decreases-all_picked : goal.decreases-all_picked
decreases-all_picked l = 2 * sum_by raw_nodes l.arguments.now + 1

-- the arguments so far read so
abbrev pub invariant-all_picked-loop-i : goal.invariant-all_picked-loop-i
invariant-all_picked-loop-i l = PickedAll l.signature l.scope (take l.i l.arguments) (take l.i l.sorts) l.readings
