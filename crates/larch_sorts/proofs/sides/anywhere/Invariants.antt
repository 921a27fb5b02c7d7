use Rattle.std.proofs.Common.{◌≡◌}
use Rattle.std.specs.List.{fold}
use Rattle.larch_term.specs.Equality.{same_tree}
use Rattle.larch_sorts_signature.specs.Table.{reading_at}
use Rattle.larch_sorts_signature.specs.SortsMeaningFound.{with_found}
use Rattle.larch_sorts.specs.Sides.{found_anywhere}
use Rattle.larch_sorts.proofs.sides.anywhere.Given as goal

-- what was found so far, with the sorts that are left, is all
abbrev pub invariant-loop-sort : goal.invariant-loop-sort
invariant-loop-sort l =
    fold (λ before s. with_found same_tree before (reading_at l.table.found.value.entries s)) l.found l.sort-iterator
    ≡ found_anywhere l.table.found.value.entries
