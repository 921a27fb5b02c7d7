use Rattle.std.proofs.Common.{filter}
use Rattle.larch_sorts_signature.specs.Domains.{has_domain, kept_for}
use Rattle.larch_sorts_signature.proofs.ByDomain.{next_kept}
use Rattle.larch_sorts_signature.proofs.domains.Domains.of.Goals as goal

pub loop-operator-preserved : goal.loop-operator-preserved
loop-operator-preserved c = λ ss.
    next_kept (has_domain ss) c.args.operators.now c.loop-operator.operator-index c.operator-item.result
    (kept_for c.loop-operator.kept.entries ss) (kept_for c.keep.new.kept.entries ss)
    (filter (has_domain ss) c.args.operators.now)
    c.loop-operator-test.true c.operator-item.is (c.in_ok-keep.ensures ss) (c.loop-operator.invariant ss)
