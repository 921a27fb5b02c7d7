use Rattle.std.proofs.Common.{[], ◌∷◌, ◌++◌, map, ◌∙◌, sym, ap}
use Rattle.larch_certificate.specs.CodedView.{view_coded}
use Rattle.larch_verify_decoding.specs.Postorder.{postorders}
use Rattle.larch_verify_decoding.proofs.Orders.{arguments_pushed}
use Rattle.larch_verify_decoding.proofs.decoding.push_arguments.Goals as goal

pub returns-in_ok-push_all-in-App : goal.returns-in_ok-push_all-in-App
returns-in_ok-push_all-in-App c =
    ap (λ ws. postorders ws ++ c.args.term.now ∷ [])
    (c.in_ok-push_all-in-App.ensures
    ∙ ap (λ xs. map (λ t. t.now) c.args.waiting.now.items ++ xs) c.as_slice.ensures)
    ∙ arguments_pushed (map (λ t. t.now) c.args.waiting.now.items) c.in-App.arguments c.in-App.field-0 c.args.term.now
    (ap view_coded (sym c.in-App.is) ∙ c.node.ensures)
