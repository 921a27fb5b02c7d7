-- Each term is counted where it is equal.
use Rattle.larch_term.proofs.Decided.{trees_told}
use Rattle.larch_order.proofs.AsMultisets.{counted_next}
use Rattle.larch_order.proofs.greater.count_of.Goals as goal
use Rattle.larch_order.proofs.greater.count_of.Goals.{then-same_term, else-same_term}

pub loop-other-preserved : goal.loop-other-preserved
loop-other-preserved c =
    counted_next c.args.term.now c.other-item.result c.args.terms.now c.loop-other.other-index c.loop-other.count
    c.if-same_term.count c.same_term.result
    c.loop-other-test.true c.other-item.is
    (trees_told c.other-item.result c.args.term.now c.same_term.result c.same_term.ensures) c.loop-other.invariant
    (elim c.if-same_term.branch [
      | then-same_term w ↦ rw w.if-same_term.true w.count-is
      | else-same_term w ↦ rw w.if-same_term.false w.count-is
    ])
