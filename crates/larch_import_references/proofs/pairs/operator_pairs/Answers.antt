use Rattle.std.proofs.Common.{◌∙◌}
use Rattle.larch_import_references.proofs.Pushing.{one_more}
use Rattle.larch_import_references.specs.Pairs.{operator_pair}
use Rattle.larch_import_references.proofs.pairs.operator_pairs.Goals as goal

pub loop-operator-preserved : goal.loop-operator-preserved
loop-operator-preserved c =
    c.in_ok-push.ensures.ok
    ∙ one_more (operator_pair c.args.by.now) c.loop-operator.pairs c.args.operators.now c.loop-operator.operator-index
    c.operator-item.result
    c.in_ok-pair.pair c.loop-operator-test.true c.operator-item.is c.in_ok-pair.ensures c.loop-operator.invariant
