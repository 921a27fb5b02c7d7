use Rattle.std.proofs.Common.{◌≡◌, false, map, take}
use Rattle.std.specs.List.{list_any}
use Rattle.std.specs.Map.{keys_of}
use Rattle.larch_store.specs.Layers.{join_layers}
use Rattle.larch_store.specs.contracts.key.KeyPartialEq.TheImpl as key_eq
use Rattle.larch_store.proofs.entries.find_in.Given as goal

-- none of the layers so far has it
abbrev pub invariant-loop-layer : goal.invariant-loop-layer
invariant-loop-layer l =
    list_any (key_eq.ghosts.eq l.key) (keys_of (join_layers (map (λ layer. layer.value)
    (take l.layer-index l.layers)))) ≡ false
