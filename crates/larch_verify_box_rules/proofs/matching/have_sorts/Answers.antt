use Rattle.std.proofs.Common.{◌<◌, length, arith}
use Rattle.larch_verify_box_rules.proofs.Alike.{differs_at, alike_more, unequal, equal}
use Rattle.larch_verify_box_rules.proofs.matching.have_sorts.Goals as goal

pub returns-then-ne : goal.returns-then-ne
returns-then-ne c = (
  λ e. cc,
  λ h. absurd (differs_at (λ p. p.sort) c.args.parts.now c.args.sorts.now c.loop-i.i c.index-parts-i.result
      c.index-sorts-i.result c.loop-i-test.true
      (unequal _ c.index-sorts-i.result _ c.ne.result c.ne.ensures c.if-ne.true c.index-sorts-i.is) h),
)

pub loop-i-preserved : goal.loop-i-preserved
loop-i-preserved c =
    let l : c.loop-i.i < length c.args.sorts.now = omega (arith, c.loop-i-test.true, c.if-parts-sorts.false) in
    alike_more (λ p. p.sort) c.args.parts.now c.args.sorts.now c.loop-i.i c.index-parts-i.result c.index-sorts-i.result
    c.loop-i-test.true l
    c.loop-i.invariant (equal _ c.index-sorts-i.result _ c.ne.result c.ne.ensures c.if-ne.false c.index-sorts-i.is)
