use Rattle.std.proofs.Common.{◌≡◌, take}
use Rattle.larch_sorts_counts.specs.Numbers.{AreDifferent}
use Rattle.larch_sorts_counts.proofs.numbers.all_differ.Given as goal

-- the operators so far are noted, and different
abbrev pub invariant-loop-operator : goal.invariant-loop-operator
invariant-loop-operator l =
    (l.before.keys ≡ take l.operator-index l.operators) × AreDifferent (take l.operator-index l.operators)
