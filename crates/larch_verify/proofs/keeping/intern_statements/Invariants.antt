use Rattle.std.proofs.Common.{◌≡◌, All, map, take}
use Rattle.larch_verify_pool.specs.Pooled.{Grows}
use Rattle.larch_verify_history.specs.Past.{IsStated, stated_in}
use Rattle.larch_verify.proofs.keeping.intern_statements.Given as goal

abbrev pub invariant-loop-statement : goal.invariant-loop-statement
invariant-loop-statement l = record {
  grows : Grows l.fn.pool l.pool;
  within : All (IsStated l.pool) l.stated.items;
  says : map (stated_in l.pool) l.stated.items ≡ take l.statement-index l.statements;
}
