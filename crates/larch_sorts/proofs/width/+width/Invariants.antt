use Rattle.std.proofs.Common.{◌+◌, ◌*◌, sum_by}
use Rattle.larch_raw.specs.RawTree.{raw_nodes}
use Rattle.larch_sorts.proofs.width.+width.Given as goal

-- the nodes that are left
abbrev pub decreases-width_of : goal.decreases-width_of
decreases-width_of l = 2 * raw_nodes l.raw.now

abbrev pub decreases-width_of_all : goal.decreases-width_of_all
decreases-width_of_all l = 2 * sum_by raw_nodes l.arguments.now + 1
