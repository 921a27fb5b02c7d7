use Rattle.std.proofs.Common.{◌∙◌, sym}
use Rattle.larch_sorts_counts.proofs.Numbering.{different_next}
use Rattle.larch_sorts_counts.proofs.numbers.all_differ.Goals as goal

pub loop-operator-preserved : goal.loop-operator-preserved
loop-operator-preserved c =
    different_next c.args.operators.now c.loop-operator.operator-index c.operator-item.result c.in_ok-operator.operator
    c.loop-operator.before.keys c.insert.new.self.keys
    c.loop-operator-test.true c.operator-item.is c.in_ok-operator.ensures c.in_ok-insert.ensures.keys
    (sym c.contains.ensures ∙ c.if-contains.false) c.loop-operator.invariant
