use Rattle.std.proofs.Common.{◌≡◌, ◌++◌, take}
use Rattle.larch_prove_work.proofs.opened.add_operators.Given as goal

-- the operators so far
abbrev pub invariant-loop-operator : goal.invariant-loop-operator
invariant-loop-operator l = l.found ≡ l.initial.found ++ take l.operator-index l.further
