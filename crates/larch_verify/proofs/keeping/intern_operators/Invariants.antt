use Rattle.std.proofs.Common.{◌≡◌, map, take, slice_get, Some}
use Rattle.larch_verify_pool.specs.Pooled.{Grows}
use Rattle.larch_verify.proofs.keeping.intern_operators.Given as goal

abbrev pub invariant-loop-operator : goal.invariant-loop-operator
invariant-loop-operator l = record {
  grows : Grows l.fn.pool l.pool;
  numbers : map (slice_get l.pool.operators) l.numbers.items ≡ map Some (take l.operator-index l.operators);
}
