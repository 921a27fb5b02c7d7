-- Box by box.
use Rattle.std.proofs.Common.{arith}
use Rattle.larch_prove_work.proofs.Constants.{box_added, boxes_added}
use Rattle.larch_prove_work.proofs.opened.add_boxes.Goals as goal

pub loop-open_box-preserved : goal.loop-open_box-preserved
loop-open_box-preserved c =
    box_added c.args.boxes.now c.loop-open_box.open_box-index c.open_box-item.result _ _ _ c.loop-open_box-test.true
    c.open_box-item.is c.loop-open_box.invariant c.in_ok-add_box.ensures

pub returns : goal.returns
returns c =
    boxes_added c.args.boxes.now c.loop-open_box.open_box-index _ _ (omega (arith, c.loop-open_box-test.false))
    c.loop-open_box.invariant
