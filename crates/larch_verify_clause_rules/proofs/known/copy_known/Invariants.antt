use Rattle.std.proofs.Common.{◌≡◌, take}
use Rattle.larch_verify_clause_rules.specs.Operators.{operators_in}
use Rattle.larch_verify_clause_rules.proofs.known.copy_known.Given as goal

abbrev pub invariant-loop-one : goal.invariant-loop-one
invariant-loop-one l = l.operators ≡ operators_in (take l.one-index l.known)
