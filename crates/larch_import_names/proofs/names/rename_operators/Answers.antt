use Rattle.std.proofs.Common.{◌∙◌}
use Rattle.larch_import_names.proofs.Naming.{one_more}
use Rattle.larch_import_names.specs.Names.{operator_by, sort_or}
use Rattle.larch_import_names.proofs.names.rename_operators.Goals as goal

pub loop-operator-preserved : goal.loop-operator-preserved
loop-operator-preserved c =
    c.in_ok-push.ensures.ok
    ∙ one_more (operator_by (sort_or (λ s. s) c.args.by.now) c.args.by.now) c.loop-operator.new c.args.operators.now
    c.loop-operator.operator-index
    c.operator-item.result c.in_ok-other.other c.loop-operator-test.true c.operator-item.is c.in_ok-other.ensures
    c.loop-operator.invariant
