use Rattle.std.proofs.Common.{◌≡◌, map, take}
use Rattle.larch_store.specs.Layers.{join_layers}
use Rattle.larch_rewrite.proofs.layered_rules.join.Given as goal

-- the layers so far are joined
abbrev pub invariant-loop-layer : goal.invariant-loop-layer
invariant-loop-layer l = l.one ≡ join_layers (map (λ layer. layer.value) (take l.layer-index l.layers))
