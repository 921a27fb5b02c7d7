-- A reading has more nodes than what stands in it.
use Rattle.std.specs.Prelude.{◌*◌, ◌≤◌, max}
use Rattle.std.proofs.Common.{arith}
use Rattle.larch_term.specs.Tree.{nodes}
use Rattle.larch_term.specs.TreeFalls.{most_le_nodes_all}
use Rattle.larch_sorts_signature.specs.ReadingView.{view_node}
use Rattle.larch_sorts_signature.specs.declared.reading.Node.{Node}
use Rattle.larch_sorts_signature.specs.declared.reading.Node.TheVariants.{Var, App}
use Rattle.larch_sorts_signature.specs.declared.reading.Reading.TheDeep.{deep-Node}

pub node_falls : (n : Node) → max (deep-Node n) 0 ≤ 2 * nodes (view_node n)
node_falls (Var n s) = omega arith
node_falls (App f ts) = omega (arith, most_le_nodes_all ts.items)
