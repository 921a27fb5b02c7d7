use Rattle.std.proofs.Common.{◌≡◌, map, take}
use Rattle.larch_sorts_known.proofs.built_ins.copies_of.Given as goal

-- the sorts so far are copied
abbrev pub invariant-loop-sort : goal.invariant-loop-sort
invariant-loop-sort l = l.copies.items ≡ map (λ sort. sort.now) (take l.sort-index l.sorts)
