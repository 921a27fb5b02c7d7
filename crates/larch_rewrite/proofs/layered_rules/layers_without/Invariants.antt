use Rattle.std.proofs.Common.{◌≡◌, map, take}
use Rattle.larch_store.specs.Layers.{join_layers}
use Rattle.larch_rewrite.specs.RuleSet.{without}
use Rattle.larch_rewrite.proofs.layered_rules.layers_without.Given as goal

-- of the layers so far those that have another name
abbrev pub invariant-loop-layer : goal.invariant-loop-layer
invariant-loop-layer l =
    join_layers (map (λ layer. layer.value) l.others.items)
    ≡ without l.name (join_layers (map (λ layer. layer.value) (take l.layer-index l.layers)))
