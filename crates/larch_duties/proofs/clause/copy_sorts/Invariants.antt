use Rattle.std.proofs.Common.{◌≡◌, take}
use Rattle.larch_duties.proofs.clause.copy_sorts.Given as goal

-- the sorts so far
abbrev pub invariant-loop-sort : goal.invariant-loop-sort
invariant-loop-sort l = l.copies ≡ take l.sort-index l.sorts
