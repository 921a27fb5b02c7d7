use Rattle.std.proofs.Common.{ℕ, List, map, sym, ◌∙◌, ap}
use Rattle.larch_term.specs.Place.{argument}
use Rattle.larch_term.specs.Tree.{forest_of}
use Rattle.larch_verify_pool.specs.Pooled.{tree_in}
use Rattle.larch_verify_pool.proofs.Placed.{numbered_tree, node_argument}
use Rattle.larch_verify_pool.proofs.placing.argument.Goals as goal

pub returns-in-App-clause-tree : goal.returns-in-App-clause-tree
returns-in-App-clause-tree c =
    numbered_tree c.args.pool.now.trees c.as_slice.result.now c.args.number c.numbered.result c.numbered.ensures.some
    c.numbered.ensures.none
    ∙ ap (λ (xs : List ℕ). argument (forest_of (map (tree_in c.args.pool.now.trees) xs)) c.args.number)
    c.as_slice.ensures
    ∙ sym (node_argument c.args.pool.now.operators c.args.pool.now.trees _ c.node.result.now c.in-App.field-0
    c.in-App.arguments c.args.number c.node.ensures.tree c.in-App.is)
