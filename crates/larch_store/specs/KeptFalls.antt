-- A shared term has more nodes than what stands in it.
use Rattle.std.specs.Prelude.{ℕ, ◌*◌, ◌≤◌, max}
use Rattle.std.proofs.Common.{arith}
use Rattle.larch_term.specs.Tree.{nodes}
use Rattle.larch_store.specs.Numbered.{term_of}
use Rattle.larch_store.specs.SharedView.{view_shared}
use Rattle.larch_store.specs.declared.shared.SharedNode.{SharedNode}
use Rattle.larch_store.specs.declared.shared.SharedNode.TheVariants.{Variable, Application}
use Rattle.larch_store.specs.declared.shared.Shared.TheDeep.{deep-SharedNode}

pub node_falls : (k z : ℕ) (n : SharedNode)
    → max (max (deep-SharedNode n) 0) 0 ≤ 2 * nodes (term_of (view_shared k z n))
node_falls k z (Variable n s) = omega arith
node_falls k z (Application f xs) = omega arith
