use Rattle.std.proofs.Common.{[], ◌∷◌, ◌++◌, map, ◌∙◌, sym, ap}
use Rattle.larch_term.specs.TermView.{view_node}
use Rattle.larch_verify_pool.specs.Postorder.{postorders}
use Rattle.larch_verify_pool.proofs.Postorders.{arguments_pushed}
use Rattle.larch_verify_pool.proofs.interning.push_arguments.Goals as goal

pub returns-in_ok-push_all-in-App : goal.returns-in_ok-push_all-in-App
returns-in_ok-push_all-in-App c =
    ap (λ ws. postorders ws ++ c.args.term.now ∷ [])
    (c.in_ok-push_all-in-App.ensures
    ∙ ap (λ xs. map (λ t. t.now) c.args.waiting.now.items ++ xs) c.as_slice.ensures)
    ∙ arguments_pushed (map (λ t. t.now) c.args.waiting.now.items) c.in-App.arguments c.in-App.field-0 c.args.term.now
    (ap view_node (sym c.in-App.is) ∙ c.node.ensures)
