use Rattle.larch_prove_boxes.proofs.ToOpen.{unopened_next}
use Rattle.larch_prove_boxes.proofs.to_open.+add_constants.Goals as goal

pub add_all_constants-loop-term-preserved : goal.add_all_constants-loop-term-preserved
add_all_constants-loop-term-preserved t c =
    unopened_next c.args.block.now c.args.opened.now c.loop-term.found c.add_constants.new.found
    c.as_slice-term-items.result.now c.loop-term.term-index c.term-item.result _ c.loop-term-test.true c.term-item.is
    c.in_ok-add_constants.ensures c.loop-term.invariant
