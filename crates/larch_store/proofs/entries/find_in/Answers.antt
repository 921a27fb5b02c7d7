use Rattle.std.proofs.Common.{Contains, subst}
use Rattle.larch_store.proofs.Layered.{contains_joined}
use Rattle.larch_store.proofs.entries.find_in.Goals as goal

pub returns-in-Some-clause-some : goal.returns-in-Some-clause-some
returns-in-Some-clause-some c =
    contains_joined (λ layer. layer.value) c.args.layers.now c.loop-layer.layer-index c.layer-item.result
    (c.args.key.now, c.in-Some.found.now) c.layer-item.is c.loop-layer-test.true
    (subst (λ es. Contains es (c.args.key.now, c.in-Some.found.now)) c.as_ref.ensures c.in-Some.ensures.some)
