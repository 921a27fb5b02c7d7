-- A term has more nodes than each of its arguments.
use Rattle.std.specs.Prelude.{◌+◌, ◌*◌, ◌≤◌, List, [], ◌∷◌}
use Rattle.std.proofs.Common.{arith}
use denote.Param.Weighed.{most}
use Rattle.larch_raw.specs.RawTree.{RawTree, raw_nodes, raw_nodes_all, raw_forest}

pub most_le_raw_nodes_all : (ts : List RawTree)
    → most (λ t. 2 * raw_nodes t + 1) ts ≤ 2 * raw_nodes_all (raw_forest ts) + 1
most_le_raw_nodes_all [] = omega arith
most_le_raw_nodes_all (t ∷ ts) = omega (arith, most_le_raw_nodes_all ts)
