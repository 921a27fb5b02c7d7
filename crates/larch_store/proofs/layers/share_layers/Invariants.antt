use Rattle.std.proofs.Common.{◌≡◌, map, take}
use Rattle.larch_store.proofs.layers.share_layers.Given as goal

-- the layers so far are shared
abbrev pub invariant-loop-layer : goal.invariant-loop-layer
invariant-loop-layer g l = map (λ layer. layer.value) l.shared.items ≡ map (λ layer. layer.value)
    (take l.layer-index l.layers)
