use Rattle.std.proofs.Common.{sym, ◌∙◌, ap}
use Rattle.larch_term.specs.TermView.{view_node}
use Rattle.larch_renaming.specs.Renaming.{rename_tree}
use Rattle.larch_import_names.proofs.Naming.{one_more}
use Rattle.larch_import_names.proofs.Terms.{renamed_app}
use Rattle.larch_import_names.specs.Names.{renaming}
use Rattle.larch_import_names.proofs.renaming.+rename.Goals as goal

pub rename_term-returns-in_ok-operator-in-App : goal.rename_term-returns-in_ok-operator-in-App
rename_term-returns-in_ok-operator-in-App t c =
    c.app.ensures
    ∙ renamed_app c.args.by.now c.args.term.now c.in-App.operator c.in_ok-operator-in-App.operator c.in-App.arguments
    c.in_ok-arguments-in-App.arguments (sym (ap view_node c.in-App.is) ∙ c.node.ensures)
    c.in_ok-operator-in-App.ensures c.in_ok-arguments-in-App.ensures

pub rename_terms-loop-term-preserved : goal.rename_terms-loop-term-preserved
rename_terms-loop-term-preserved t c =
    c.in_ok-push.ensures.items
    ∙ one_more (rename_tree (renaming c.args.by.now)) c.loop-term.items.items c.as_slice-term-items.result.now
    c.loop-term.term-index c.term-item.result c.in_ok-new.new c.loop-term-test.true c.term-item.is c.in_ok-new.ensures
    c.loop-term.invariant
