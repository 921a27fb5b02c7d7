-- Layers, and what lies in them.
use Rattle.std.specs.Prelude.{List, map}
use Rattle.std.specs.List.{flat_map}
use Rattle.larch_store.specs.Numbered.{Numbered}
use Rattle.larch_store.specs.declared.key.Key.{Key}

-- what lies in layers, from the first to the last
abbrev pub join_layers : {X : Type 0} → List (List X) → List X
join_layers layers = flat_map (λ layer. layer) layers

-- shared terms without their keys
abbrev pub shared_in : List (Key × Numbered) → List Numbered
shared_in entries = map (λ entry. entry.1) entries
