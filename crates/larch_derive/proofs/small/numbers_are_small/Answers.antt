use Rattle.larch_derive.proofs.Words.{small_step}
use Rattle.larch_derive.proofs.small.numbers_are_small.Goals as goal

pub loop-number-preserved : goal.loop-number-preserved
loop-number-preserved c =
    small_step c.args.numbers.now c.loop-number.number-index _ c.loop-number-test.true c.number_is_small.ensures
    c.loop-number.invariant
