use Rattle.std.proofs.Common.{◌∙◌, ap}
use Rattle.std.specs.Prelude.{map}
use Rattle.larch_models_meaning.specs.FiniteModel.{interpretation_of}
use Rattle.larch_models.specs.Clauses.{plain_operation}
use Rattle.larch_models.proofs.Operations.{operations_further}
use Rattle.larch_models.proofs.operation.operations_of.Goals as goal

pub loop-operator-preserved : goal.loop-operator-preserved
loop-operator-preserved c =
    ap (map plain_operation) c.in_ok-push.ensures.ok
    ∙ operations_further (interpretation_of c.args.model.now) c.args.sort.now c.args.operators.now
    c.loop-operator.found c.loop-operator.operator-index c.operator-item.result c.in_ok-operation.operation
    c.loop-operator-test.true c.operator-item.is c.loop-operator.invariant c.in_ok-operation.ensures
