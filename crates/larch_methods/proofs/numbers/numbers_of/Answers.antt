use Rattle.larch_methods.proofs.Numbered.{not_all_among}
use Rattle.larch_methods.proofs.Undoing.{missing_so}
use Rattle.larch_methods.proofs.numbers.numbers_of.Goals as goal

pub returns-in_default-clause-none : goal.returns-in_default-clause-none
returns-in_default-clause-none c =
    not_all_among c.args.own.now c.args.operators.now c.loop-operator.operator-index c.operator-item.result
    c.loop-operator-test.true c.operator-item.is (missing_so _ _ c.number_of-found.ensures.none c.in_default.is)
