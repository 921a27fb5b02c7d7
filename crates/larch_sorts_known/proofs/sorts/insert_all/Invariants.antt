use Rattle.std.proofs.Common.{◌≡◌, drop}
use Rattle.std.specs.List.{fold}
use Rattle.larch_sorts_known.specs.Sorts.{with_sort}
use Rattle.larch_sorts_known.proofs.sorts.insert_all.Given as goal

-- the sorts that are left, put behind those that are there, are all
abbrev pub invariant-loop-sort : goal.invariant-loop-sort
invariant-loop-sort l = fold with_sort l.sorts (drop l.sort-index l.more) ≡ fold with_sort l.initial.sorts l.more
