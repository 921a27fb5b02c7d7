use Rattle.std.proofs.Common.{◌∙◌}
use Rattle.larch_import_names.specs.Names.{renaming}
use Rattle.larch_import_meaning.specs.Imported.{number_among}
use Rattle.larch_import.proofs.Moving.{one_more}
use Rattle.larch_import.proofs.numbers.numbers_of.Goals as goal

pub loop-operator-preserved : goal.loop-operator-preserved
loop-operator-preserved c =
    c.in_ok-push.ensures.ok
    ∙ one_more (λ f. number_among c.args.others.now ((renaming c.args.by.now).operator f)) c.loop-operator.numbers
    c.args.operators.now c.loop-operator.operator-index c.operator-item.result c.in_ok-number.number
    c.loop-operator-test.true c.operator-item.is c.in_ok-number.ensures c.loop-operator.invariant
