-- A front of the digits spells too large a number.
use Rattle.std.proofs.lemmas.List.{drop_more}
use Rattle.larch_base.proofs.Numbers.{too_large}
use Rattle.larch_base.proofs.number.number_up_to.Goals as goal

pub returns-in-None : goal.returns-in-None
returns-in-None c =
    too_large c.loop-digit.number _ c.args.most _ c.with_digit.result c.args.digits.now c.loop-digit.digit-index
    c.with_digit.ensures c.in-None.is (drop_more c.args.digits.now c.loop-digit.digit-index _ c.loop-digit-test.true)
    c.loop-digit.invariant.same
