use Rattle.std.proofs.Common.{◌≡◌, map, take}
use Rattle.larch_import_references.specs.Pairs.{sort_pair}
use Rattle.larch_import_references.proofs.pairs.sort_pairs.Given as goal

-- the pairs so far
abbrev pub invariant-loop-sort : goal.invariant-loop-sort
invariant-loop-sort l = l.pairs ≡ map (sort_pair l.by) (take l.sort-index l.sorts)
