use Rattle.std.proofs.Common.{refl}
use Rattle.larch_traits_items.specs.Index.{is_taking, seen_at}
use Rattle.larch_traits_items.proofs.Indexed.{next_seen}
use Rattle.larch_traits_items.proofs.index.seen_taking.Goals as goal

pub loop-operator-preserved : goal.loop-operator-preserved
loop-operator-preserved c = λ key.
    next_seen (is_taking key) c.args.operators.now c.loop-operator.operator-index c.operator-item.result
    (seen_at c.loop-operator.seen.entries key) (seen_at c.note_sorts.new.seen.entries key)
    (is_taking key c.operator-item.result) c.loop-operator-test.true c.operator-item.is (c.loop-operator.invariant key)
    (c.in_ok-note_sorts.ensures key) refl
