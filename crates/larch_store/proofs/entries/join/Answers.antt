use Rattle.larch_store.proofs.Layered.{differ_next}
use Rattle.larch_store.proofs.entries.join.Goals as goal

pub put_all-requires : goal.put_all-requires
put_all-requires c =
    differ_next (λ layer. layer.value) c.args.layers.now c.loop-layer.layer-index c.layer-item.result c.loop-layer.one
    c.as_ref.result.now c.layer-item.is c.loop-layer-test.true c.loop-layer.invariant c.as_ref.ensures c.requires
