-- A term has more nodes than what stands in it.
use Rattle.std.specs.Prelude.{◌*◌, ◌≤◌, max}
use Rattle.std.proofs.Common.{arith}
use Rattle.larch_raw.specs.RawTree.{raw_nodes}
use Rattle.larch_raw.specs.RawView.{view_node}
use Rattle.larch_raw.specs.declared.term.RawNode.{RawNode}
use Rattle.larch_raw.specs.declared.term.RawNode.TheVariants.{Apply, Qualified}
use Rattle.larch_raw.specs.declared.term.RawTerm.TheDeep.{deep-RawNode}

pub node_falls : (n : RawNode) → max (deep-RawNode n) 0 ≤ 2 * raw_nodes (view_node n)
node_falls (Apply n ts p) = omega arith
node_falls (Qualified t w p) = omega arith
