use Rattle.std.proofs.Common.{◌↔◌, drop}
use Rattle.larch_term.specs.Sorts.{AllWellSorted}
use Rattle.larch_term.specs.Tree.{forest_of}
use Rattle.larch_term.proofs.sorts.+well_sorted.Given as goal

-- all terms are well sorted exactly where those that are left are
abbrev pub invariant-are_well_sorted-loop-term : goal.invariant-are_well_sorted-loop-term
invariant-are_well_sorted-loop-term l =
    AllWellSorted (forest_of (drop l.term-index l.term-items)) ↔ AllWellSorted (forest_of l.term-items)
