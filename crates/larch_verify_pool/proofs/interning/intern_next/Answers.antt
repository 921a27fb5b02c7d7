use Rattle.std.proofs.Common.{length, map, sym, ◌∙◌, ap}
use Rattle.larch_term.specs.Tree.{app, forest_of}
use Rattle.larch_term.specs.TermView.{view_node}
use Rattle.larch_verify_pool.specs.Pooled.{tree_in}
use Rattle.larch_verify_pool.proofs.Postorders.{application_behind, application_within, variable_behind}
use Rattle.larch_verify_pool.proofs.interning.intern_next.Goals as goal

pub returns-in_ok-push-in-Var-clause-trees : goal.returns-in_ok-push-in-Var-clause-trees
returns-in_ok-push-in-Var-clause-trees c =
    variable_behind c.args.pool.now.trees c.intern_variable.new.pool.trees c.args.numbers.now.items
    c.push.new.self.items c.in_ok-number-in-Var.number c.in-Var.name c.in-Var.sort c.args.term.now
    (ap view_node (sym c.in-Var.is) ∙ c.node.ensures) c.in_ok-number-in-Var.ensures.grows.1 c.requires
    c.in_ok-push-in-Var.ensures.items c.in_ok-number-in-Var.ensures.tree

pub returns-in_ok-push-in-App-clause-within : goal.returns-in_ok-push-in-App-clause-within
returns-in_ok-push-in-App-clause-within c =
    application_within c.args.pool.now.trees c.apply_operator.new.pool.trees c.args.numbers.now.items
    c.take_last.new.numbers.items c.push-in-App.new.self.items _ c.in_ok-number-in-App.number
    (app c.in-App.operator (forest_of (map (tree_in c.args.pool.now.trees) c.in_ok-arguments-in-App.arguments)))
    c.in_ok-number-in-App.ensures.grows.1 c.in_ok-arguments-in-App.ensures.rest c.requires
    c.in_ok-push-in-App.ensures.items c.in_ok-number-in-App.ensures.tree

pub returns-in_ok-push-in-App-clause-trees : goal.returns-in_ok-push-in-App-clause-trees
returns-in_ok-push-in-App-clause-trees c =
    application_behind c.args.pool.now.trees c.apply_operator.new.pool.trees c.in-App.operator c.in-App.arguments
    c.args.term.now c.args.numbers.now.items c.take_last.new.numbers.items c.in_ok-arguments-in-App.arguments
    c.push-in-App.new.self.items (length c.as_slice.result.now) c.in_ok-number-in-App.number
    (ap view_node (sym c.in-App.is) ∙ c.node.ensures) (ap length c.as_slice.ensures)
    c.in_ok-arguments-in-App.ensures.last c.in_ok-arguments-in-App.ensures.rest c.in_ok-number-in-App.ensures.grows.1
    c.requires c.in_ok-push-in-App.ensures.items c.in_ok-number-in-App.ensures.tree
