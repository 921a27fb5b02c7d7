-- A term has more nodes than each of its arguments.
use Rattle.std.specs.Prelude.{◌+◌, ◌*◌, ◌≤◌, List, [], ◌∷◌}
use Rattle.std.proofs.Common.{arith}
use denote.Param.Weighed.{most}
use Rattle.larch_term.specs.Tree.{Tree, nodes, nodes_all, forest_of}

pub most_le_nodes_all : (ts : List Tree) → most (λ t. 2 * nodes t + 1) ts ≤ 2 * nodes_all (forest_of ts) + 1
most_le_nodes_all [] = omega arith
most_le_nodes_all (t ∷ ts) = omega (arith, most_le_nodes_all ts)
