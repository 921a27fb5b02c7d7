use Rattle.std.proofs.Common.{◌≡◌, None, map, take}
use Rattle.larch_store.specs.Layers.{join_layers}
use Rattle.larch_store.specs.Numbered.{term_of}
use Rattle.larch_rewrite.proofs.Found.{tried}
use Rattle.larch_rewrite.proofs.searching.first_in_layers.Given as goal

-- none of the layers so far has a rule that applies
abbrev pub invariant-loop-layer : goal.invariant-loop-layer
invariant-loop-layer l =
    tried (join_layers (map (λ layer. layer.value) (take l.layer-index l.layers))) (term_of l.term) ≡ None
