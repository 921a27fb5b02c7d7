use Rattle.larch_sorts_signature.specs.Places.{kept_at}
use Rattle.larch_sorts_signature.proofs.Enough.{kept_next}
use Rattle.larch_sorts_signature.proofs.places.keep.Goals as goal

pub loop-position-preserved : goal.loop-position-preserved
loop-position-preserved c = λ p.
    kept_next c.loop-position.kept.entries c.put.new.kept.entries
    (kept_at c.args.kept.now.entries p) c.loop-position.position c.args.operator.now c.domain-sorts.result.now
    c.in_ok-sort.sort c.index-sorts-position.result p
    c.domain-sorts.ensures c.loop-position-test.true c.index-sorts-position.is c.in_ok-sort.ensures
    (c.loop-position.invariant p) (c.in_ok-put.ensures p)
