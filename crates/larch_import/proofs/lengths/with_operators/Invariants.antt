use Rattle.std.proofs.Common.{◌≡◌, take}
use Rattle.std.specs.Prelude.{fold}
use Rattle.larch_import_meaning.specs.Lengths.{with_operator}
use Rattle.larch_import.proofs.lengths.with_operators.Given as goal

-- so far
abbrev pub invariant-loop-operator : goal.invariant-loop-operator
invariant-loop-operator l = l.most ≡ fold with_operator l.fn.most (take l.operator-index l.operators)
