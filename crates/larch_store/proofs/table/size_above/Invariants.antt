use Rattle.std.proofs.Common.{◌≡◌, ◌+◌, ◌≤◌, take, sum_by}
use Rattle.larch_store.specs.Numbered.{size_of}
use Rattle.larch_store.specs.Stored.{most_nodes}
use Rattle.larch_store.proofs.table.size_above.Given as goal

abbrev pub invariant-loop-argument : goal.invariant-loop-argument
invariant-loop-argument l = record {
  total : l.total ≡ 1 + sum_by size_of (take l.argument-index l.arguments);
  small : l.total ≤ most_nodes;
}
