use Rattle.std.proofs.Common.{◌≡◌, take}
use Rattle.larch_term.proofs.copying.copy_operators.Given as goal

-- those so far are copied
abbrev pub invariant-loop-operator : goal.invariant-loop-operator
invariant-loop-operator l = l.copies ≡ take l.operator-index l.operators
