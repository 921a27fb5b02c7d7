use Rattle.larch_verify.proofs.Names.{names_step}
use Rattle.larch_verify.proofs.verifying.names_are_plain.Goals as goal

pub loop-operator-preserved : goal.loop-operator-preserved
loop-operator-preserved c =
    names_step c.args.operators.now c.loop-operator.operator-index c.operator-item.result c.name.result.now
    c.loop-operator-test.true c.operator-item.is c.name.ensures c.loop-operator.invariant
