use Rattle.std.proofs.Common.{◌+◌, ◌*◌, take, sum_by}
use Rattle.larch_raw.specs.RawTree.{raw_nodes}
use Rattle.larch_sorts.proofs.OnlyReadings.{OnlyAll}
use Rattle.larch_sorts.proofs.narrow.+narrow.Given as goal

-- the nodes that are left
abbrev pub decreases-only_at : goal.decreases-only_at
decreases-only_at l = 2 * raw_nodes l.raw.now

abbrev pub decreases-only_arguments : goal.decreases-only_arguments
decreases-only_arguments l = 2 * sum_by raw_nodes l.arguments.now + 1

-- each of the arguments so far is the only one at its sort
abbrev pub invariant-only_arguments-loop-i : goal.invariant-only_arguments-loop-i
invariant-only_arguments-loop-i l = OnlyAll l.signature l.scope (take l.i l.arguments) (take l.i l.sorts) l.readings
