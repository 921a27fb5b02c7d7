-- A term has more nodes than what stands in it.
use Rattle.std.specs.Prelude.{◌*◌, ◌≤◌, max}
use Rattle.std.proofs.Common.{arith}
use Rattle.larch_term.specs.Tree.{nodes}
use Rattle.larch_term.specs.TermView.{view_node}
use Rattle.larch_term.specs.declared.term.Node.{Node}
use Rattle.larch_term.specs.declared.term.Node.TheVariants.{Var, App}
use Rattle.larch_term.specs.declared.term.Term.TheDeep.{deep-Node}

pub node_falls : (n : Node) → max (deep-Node n) 0 ≤ 2 * nodes (view_node n)
node_falls (Var n s) = omega arith
node_falls (App f ts) = omega arith
