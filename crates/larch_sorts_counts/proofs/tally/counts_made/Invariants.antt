use Rattle.std.proofs.Common.{◌≡◌, ◌-◌, drop, length, map}
use Rattle.std.specs.List.{fold}
use Rattle.larch_sorts_counts.specs.Counted.{counts_in}
use Rattle.larch_sorts_counts.specs.Count.{counts_made, with_count}
use Rattle.larch_sorts_counts.specs.Spread.{spread}
use Rattle.larch_sorts_counts.proofs.tally.counts_made.Given as goal

-- the counts so far, with those of the operators that are left, are all
abbrev pub invariant-loop-operator : goal.invariant-loop-operator
invariant-loop-operator l = record {
  counts : fold (with_count (map counts_in l.arguments)) (spread l.numbers l.first l.held.items)
      (drop l.operator-index l.operators)
      ≡ counts_made l.size (map counts_in l.arguments) l.operators;
  held : length l.held.items ≡ l.end - l.first;
}
