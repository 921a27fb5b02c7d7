use Rattle.std.proofs.Common.{◌≡◌, ◌++◌, drop, map}
use Rattle.std.specs.Prelude.{slice_get}
use Rattle.larch_store.specs.Layers.{join_layers}
use Rattle.larch_rewrite.proofs.layered_rules.get_among.Given as goal

-- the rule stands in a further layer, or in the last one
abbrev pub invariant-loop-layer : goal.invariant-loop-layer
invariant-loop-layer l =
    slice_get (join_layers (map (λ layer. layer.value) l.earlier) ++ l.last) l.index
    ≡ slice_get (join_layers (map (λ layer. layer.value) (drop l.layer-index l.earlier)) ++ l.last) l.place
