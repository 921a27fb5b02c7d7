use Rattle.std.proofs.Common.{◌≡◌, map, take}
use Rattle.larch_sorts_counts.specs.Numbers.{as_numbers}
use Rattle.larch_sorts_counts.proofs.numbers.all_numbered.Given as goal

-- the operators so far are numbered
abbrev pub invariant-loop-operator : goal.invariant-loop-operator
invariant-loop-operator l = l.all.items ≡ map (as_numbers l.sorts.keys) (take l.operator-index l.operators)
