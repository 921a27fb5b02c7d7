use Rattle.std.proofs.Common.{◌≡◌}
use Rattle.std.specs.List.{fold}
use Rattle.larch_sorts_signature.specs.Table.{reading_at, sorts_in}
use Rattle.larch_sorts_signature.specs.SortsMeaningFound.{with_found}
use Rattle.larch_sorts.specs.Sides.{pair_sides, same_sides, sides_found}
use Rattle.larch_sorts.proofs.sides.sides_among.Given as goal

-- what was found so far, with the sorts that are left, is all
abbrev pub invariant-loop-sort : goal.invariant-loop-sort
invariant-loop-sort l =
    fold (λ before s. with_found same_sides before
    (pair_sides (reading_at l.left.found.value.entries s) (reading_at l.right.found.value.entries s))) l.found
    l.sort-iterator
    ≡ sides_found l.left.found.value.entries l.right.found.value.entries (sorts_in l.sorts.found.value.entries)
