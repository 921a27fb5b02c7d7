-- A term has more nodes than what stands in it.
use Rattle.std.specs.Prelude.{◌*◌, ◌≤◌, max}
use Rattle.std.proofs.Common.{arith}
use Rattle.larch_certificate.specs.Coded.{coded_nodes}
use Rattle.larch_certificate.specs.CodedView.{view_coded}
use Rattle.larch_certificate.specs.declared.coded.CodedNode.{CodedNode}
use Rattle.larch_certificate.specs.declared.coded.CodedNode.TheVariants.{Var, App}
use Rattle.larch_certificate.specs.declared.coded.Coded.TheDeep.{deep-CodedNode}

pub coded_node_falls : (n : CodedNode) → max (deep-CodedNode n) 0 ≤ 2 * coded_nodes (view_coded n)
coded_node_falls (Var n s) = omega arith
coded_node_falls (App f ts) = omega arith
