use Rattle.std.proofs.Common.{◌∙◌, [], ap}
use Rattle.larch_term.specs.Equality.{same_operator}
use Rattle.larch_traits_items.specs.Index.{seen_at}
use Rattle.larch_traits_items.proofs.Indexed.{next_noted}
use Rattle.larch_traits_items.proofs.index.note_sorts.Goals as goal

pub loop-position-preserved : goal.loop-position-preserved
loop-position-preserved c = λ key.
    next_noted key c.args.operator.now c.args.operator.now.domain c.domain-sorts.result.now c.loop-position.position
    c.index-sorts-position.result
    (seen_at c.args.seen.now.entries key) (seen_at c.loop-position.seen.entries key)
    (seen_at c.note.new.seen.entries key) (same_operator c.in_ok-key.key key)
    c.domain-sorts.ensures c.loop-position-test.true c.index-sorts-position.is (c.loop-position.invariant key)
    (c.in_ok-note.ensures key)
    (ap (λ k. same_operator k key)
    (c.in_ok-key.ensures
    ∙ (λ i. record { name = c.name.ensures i; domain = []; range = c.index-sorts-position.result })))
