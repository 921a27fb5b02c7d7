-- How much is left to visit.
use Rattle.std.specs.Prelude.{ℕ, ◌+◌, bytes_eq, cond, length, List, [], ◌∷◌, Some}
use Rattle.std.specs.List.{list_any}
use Rattle.larch_flat_meaning.specs.Reached.{all_targets_in}
use Rattle.larch_flat_sources.specs.Sources.{Table}

-- how many references there are of files whose names weren't visited
abbrev pub references_left : Table → List (List ℕ) → ℕ
references_left [] seen = 0
references_left (e ∷ table) seen =
    cond (list_any (bytes_eq e.0) seen) 0 (length (all_targets_in (Some e.1))) + references_left table seen
