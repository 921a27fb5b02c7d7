use Rattle.std.proofs.Common.{◌≤◌, All, take}
use Rattle.larch_sorts_counts.specs.Spread.{LiesBetween}
use Rattle.larch_sorts_counts.proofs.tally.made_between.Given as goal

-- what the operators so far make lies between the two numbers
abbrev pub invariant-loop-operator : goal.invariant-loop-operator
invariant-loop-operator l = record {
  first : l.first ≤ l.numbers;
  end : l.end ≤ l.numbers;
  lie : All (λ g. LiesBetween l.first l.end l.numbers g.range) (take l.operator-index l.operators);
}
