use Rattle.larch_derive.proofs.Codes.{codes_step}
use Rattle.larch_derive.proofs.coding.+code.Goals as goal

pub code_all-loop-term-preserved : goal.code_all-loop-term-preserved
code_all-loop-term-preserved t c =
    rw c.in_ok-push.ensures.items
    (codes_step c.args.boxes.now c.args.theory.now.operators c.as_slice-term-items.result.now c.loop-term.term-index
    c.loop-term.items.items c.term-item.result c.in_ok-coded.coded c.loop-term-test.true c.term-item.is
    c.loop-term.invariant c.in_ok-coded.ensures)
