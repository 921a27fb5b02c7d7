use Rattle.std.proofs.Common.{◌≡◌, map, take}
use Rattle.larch_sorts_counts.specs.Numbers.{number_of}
use Rattle.larch_sorts_counts.proofs.numbers.numbers_in.Given as goal

-- these are the numbers of the sorts so far
abbrev pub invariant-loop-sort : goal.invariant-loop-sort
invariant-loop-sort l = l.numbers.items ≡ map (number_of l.sorts.keys) (take l.sort-index l.these)
