use Rattle.std.proofs.Common.{◌≡◌, ◌++◌, take}
use Rattle.larch_prove_resuming.proofs.planning.add_operators.Given as goal

-- the operators so far
abbrev pub invariant-loop-operator : goal.invariant-loop-operator
invariant-loop-operator l = l.operators ≡ l.initial.operators ++ take l.operator-index l.further
