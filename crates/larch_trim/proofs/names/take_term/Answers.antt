use Rattle.std.proofs.Common.{◌∙◌, sym, ap}
use Rattle.larch_certificate.specs.CodedView.{view_coded}
use Rattle.larch_trim.specs.Collecting.{boxes_to_come}
use Rattle.larch_trim.proofs.Collected.{application_boxes, both_ok}
use Rattle.larch_trim.proofs.names.take_term.Goals as goal

pub returns-in-App-clause-boxes : goal.returns-in-App-clause-boxes
returns-in-App-clause-boxes c =
    both_ok c.take_application.result c.take_application.ensures.named c.take_application.ensures.boxes
    (application_boxes c.args.term.now c.in-App.symbol c.in-App.arguments c.args.named.now c.take_application.new.named
    (boxes_to_come c.args.waiting.now) (boxes_to_come c.take_application.new.waiting)
    (sym (ap view_coded c.in-App.is) ∙ c.node.ensures))
