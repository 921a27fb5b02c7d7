-- What is paired before the end of a block is what was paired before it, with what is paired in it.
use Rattle.std.proofs.Common.{◌∙◌, arith, length, sym}
use Rattle.larch_sorts_counts.specs.Count.{together}
use Rattle.larch_sorts_counts.proofs.Counting.{often_stays}
use Rattle.larch_sorts_counts.proofs.InCommon.{further_block}
use Rattle.larch_sorts_counts.proofs.pairing.count_pairs.Goals as goal

pub returns-in-Often : goal.returns-in-Often
returns-in-Often c =
    let more = c.loop-place-test.true in let least = c.saturating_add.ensures in let end = c.min-end.ensures in
    let fits = c.min-end.type_inv in let long = c.loop-place.auto.place-fits in
    sym (often_stays (together c.args.left.now c.args.right.now) c.min-end.result (length c.args.left.now)
    (omega (arith, end))
    (further_block c.args.left.now c.args.right.now c.loop-place.place c.min-end.result c.loop-place.total
    c.count_pairs_in_block.result c.plus-total.result (omega (arith, more, least, end, long)) (omega (arith, end))
    c.loop-place.invariant.0
    c.count_pairs_in_block.ensures c.plus-total.ensures
    ∙ c.in-Often.is))

pub loop-place-preserved : goal.loop-place-preserved
loop-place-preserved c =
    let more = c.loop-place-test.true in let least = c.saturating_add.ensures in let end = c.min-end.ensures in
    let long = c.loop-place.auto.place-fits in (
      sym (further_block c.args.left.now c.args.right.now c.loop-place.place c.min-end.result c.loop-place.total
          c.count_pairs_in_block.result c.plus-total.result (omega (arith, more, least, end, long)) (omega (arith, end))
          c.loop-place.invariant.0
          c.count_pairs_in_block.ensures c.plus-total.ensures),
      omega (arith, end),
    )
