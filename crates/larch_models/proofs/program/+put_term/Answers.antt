use Rattle.std.proofs.Common.{◌≡◌, length, sym, ◌∙◌, ap, subst}
use Rattle.larch_term.specs.Tree.{app, forest_of, var}
use Rattle.larch_term.specs.TermView.{view_node}
use Rattle.larch_models.specs.Stacks.{Adds, Applies}
use Rattle.larch_models.proofs.Programs.{adds_application, adds_step, adds_variable}
use Rattle.larch_models.proofs.program.+put_term.Goals as goal

pub put_term-returns-in_ok-push-in-Var : goal.put_term-returns-in_ok-push-in-Var
put_term-returns-in_ok-push-in-Var t c =
    let term : var c.in-Var.name c.in-Var.sort ≡ c.args.term.now = ap view_node (sym c.in-Var.is) ∙ c.node.ensures in
    let m = c.args.model.now in
    let ws = c.args.variables.now in
    let is = c.args.program.now.items in
    subst (Adds m ws is c.push.new.self.items) term
    (subst (λ js. Adds m ws is js (var c.in-Var.name c.in-Var.sort)) (sym c.in_ok-push-in-Var.ensures.items)
    (adds_variable m ws is c.number_of-number.result c.in-Var.name c.in-Var.sort c.number_of-number.ensures))

pub put_term-returns-in_ok-put_operator-in-App : goal.put_term-returns-in_ok-put_operator-in-App
put_term-returns-in_ok-put_operator-in-App t c =
    let f = c.in-App.operator in
    let ts = c.in-App.arguments in
    let term : app f (forest_of ts) ≡ c.args.term.now = ap view_node (sym c.in-App.is) ∙ c.node.ensures in
    let m = c.args.model.now in
    let ws = c.args.variables.now in
    let is = c.args.program.now.items in
    let ks = c.put_operator.new.program.items in
    subst (Adds m ws is ks) term
    (adds_application m ws is c.put_terms.new.program.items ks f ts c.in_ok-put_terms-in-App.ensures
    (subst (λ us. Applies m f (length us) c.put_terms.new.program.items ks) c.as_slice.ensures
    c.in_ok-put_operator-in-App.ensures))

pub put_terms-loop-term-preserved : goal.put_terms-loop-term-preserved
put_terms-loop-term-preserved t c =
    adds_step c.args.model.now c.args.variables.now c.args.program.now.items c.loop-term.program.items
    c.put_term.new.program.items c.as_slice-term-items.result.now c.loop-term.term-index c.term-item.result
    c.loop-term-test.true c.term-item.is c.loop-term.invariant c.in_ok-put_term.ensures
