use Rattle.std.proofs.Common.{◌≡◌, drop, fold}
use Rattle.larch_flat_statements.specs.FlatMeaningGathered.{with_operator}
use Rattle.larch_flat_gathering.proofs.store.put_all.Given as goal

-- what the operators that are left make of those so far is the whole
abbrev pub invariant-loop-operator : goal.invariant-loop-operator
invariant-loop-operator l =
    fold with_operator l.operators.keys (drop l.operator-index l.more)
    ≡ fold with_operator l.initial.operators.keys l.more
