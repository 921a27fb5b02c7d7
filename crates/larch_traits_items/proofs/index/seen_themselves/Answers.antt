use Rattle.std.proofs.Common.{ap}
use Rattle.larch_term.specs.Equality.{same_operator}
use Rattle.larch_traits_items.specs.Index.{is_itself, seen_at}
use Rattle.larch_traits_items.proofs.Indexed.{next_seen}
use Rattle.larch_traits_items.proofs.index.seen_themselves.Goals as goal

pub loop-operator-preserved : goal.loop-operator-preserved
loop-operator-preserved c = λ key.
    next_seen (is_itself key) c.args.operators.now c.loop-operator.operator-index c.operator-item.result
    (seen_at c.loop-operator.seen.entries key) (seen_at c.note.new.seen.entries key)
    (same_operator c.in_ok-key.key key) c.loop-operator-test.true c.operator-item.is (c.loop-operator.invariant key)
    (c.in_ok-note.ensures key) (ap (λ k. same_operator k key) c.in_ok-key.ensures)
