use Rattle.std.proofs.Common.{◌≡◌, All, take}
use Rattle.larch_verify_pool.specs.Pooled.{Grows}
use Rattle.larch_verify_clause_rules.specs.Operators.{IsKnown, operators_in}
use Rattle.larch_verify_clause_rules.proofs.known.intern_operators.Given as goal

abbrev pub invariant-loop-operator : goal.invariant-loop-operator
invariant-loop-operator l = record {
  grows : Grows l.fn.pool l.pool;
  known : All (IsKnown l.pool) l.known.items;
  says : operators_in l.known.items ≡ take l.operator-index l.operators;
}
