use Rattle.std.proofs.Common.{◌≡◌, ◌++◌}
use Rattle.larch_flat_gathering.proofs.trait_.listed.Given as goal

-- the operators so far, with those that are left, are all
abbrev pub invariant-loop-operator : goal.invariant-loop-operator
invariant-loop-operator l = l.listed ++ l.operator-iterator ≡ l.initial.operator-iterator
