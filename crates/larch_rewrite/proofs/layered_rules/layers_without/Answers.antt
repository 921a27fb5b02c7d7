use Rattle.larch_rewrite.proofs.Layers.{others_more}
use Rattle.larch_rewrite.proofs.layered_rules.layers_without.Goals as goal

pub loop-layer-preserved : goal.loop-layer-preserved
loop-layer-preserved c =
    others_more (λ layer. layer.value) c.args.name.now c.args.layers.now c.loop-layer.others.items _
    c.loop-layer.layer-index c.layer-item.result c.in_ok-other.other c.layer-item.is c.loop-layer-test.true
    c.loop-layer.invariant c.in_ok-other.ensures c.in_ok-push.ensures.items
