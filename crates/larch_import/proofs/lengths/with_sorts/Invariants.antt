use Rattle.std.proofs.Common.{◌≡◌, take}
use Rattle.std.specs.Prelude.{fold}
use Rattle.larch_import_meaning.specs.Lengths.{with_sort}
use Rattle.larch_import.proofs.lengths.with_sorts.Given as goal

-- so far
abbrev pub invariant-loop-sort : goal.invariant-loop-sort
invariant-loop-sort l = l.most ≡ fold with_sort l.fn.most (take l.sort-index l.sorts)
