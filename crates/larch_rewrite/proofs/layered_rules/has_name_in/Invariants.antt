use Rattle.std.proofs.Common.{◌≡◌, false, map, take}
use Rattle.std.specs.List.{list_any}
use Rattle.larch_store.specs.Layers.{join_layers}
use Rattle.larch_rewrite.specs.RuleSet.{has_name}
use Rattle.larch_rewrite.proofs.layered_rules.has_name_in.Given as goal

-- none of the layers so far has it
abbrev pub invariant-loop-layer : goal.invariant-loop-layer
invariant-loop-layer l =
    list_any (has_name l.name) (join_layers (map (λ layer. layer.value) (take l.layer-index l.layers))) ≡ false
