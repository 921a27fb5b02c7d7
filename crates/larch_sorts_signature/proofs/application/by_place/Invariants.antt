use Rattle.std.proofs.Common.{◌≡◌, ℕ, List, length, map}
use Rattle.std.specs.List.{fold}
use Rattle.larch_sorts_signature.specs.Application.{found_by}
use Rattle.larch_sorts_signature.specs.Operators.{operators_at, with_operator}
use Rattle.larch_sorts_signature.specs.Table.{sorts_in, reading_at}
use Rattle.larch_sorts_signature.proofs.application.by_place.Given as goal

-- what the operators at the sorts that are left add to what is there is what all make
abbrev pub invariant-loop-sort : goal.invariant-loop-sort
invariant-loop-sort l =
    (s : List ℕ) → fold (with_operator (map (λ t. t.found.value.entries) l.tables) s) (reading_at l.entries.entries s)
    (found_by l.places.kept.entries (length l.tables) l.position l.sort-iterator)
    ≡ operators_at (map (λ t. t.found.value.entries) l.tables)
    (found_by l.places.kept.entries (length l.tables) l.position (sorts_in l.argument.found.value.entries)) s
