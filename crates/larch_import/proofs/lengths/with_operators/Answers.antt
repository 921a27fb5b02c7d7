use Rattle.std.proofs.Common.{◌∙◌}
use Rattle.larch_import_meaning.specs.Lengths.{with_operator}
use Rattle.larch_import.proofs.Longest.{one_more}
use Rattle.larch_import.proofs.lengths.with_operators.Goals as goal

pub loop-operator-preserved : goal.loop-operator-preserved
loop-operator-preserved c =
    c.with_operator-most.ensures
    ∙ one_more with_operator c.args.most c.args.operators.now c.loop-operator.operator-index c.operator-item.result
    c.loop-operator.most
    c.loop-operator-test.true c.operator-item.is c.loop-operator.invariant
