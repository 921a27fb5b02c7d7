use Rattle.std.proofs.Common.{◌≡◌, [], sum_by}
use Rattle.std.specs.Prelude.{nat_eq, reverse}
use Rattle.std.specs.HashMap.{get}
use Rattle.larch_term.specs.Tree.{Tree}
use Rattle.larch_verify_pool.specs.Exchanging.{image_in, IsExchange, Exchanged, IsWithin}
use Rattle.larch_verify_pool.specs.Pooled.{Grows}
use Rattle.larch_verify_pool.specs.Tasks.{AreTasks, effort}
use Rattle.larch_verify_pool.proofs.exchanging.exchange.Given as goal

-- what isn't done yet waits, each below what it needs first
abbrev pub invariant-loop-task : goal.invariant-loop-task
invariant-loop-task l = record {
  grows : Grows l.fn.pool l.pool;
  operators : l.pool.operators ≡ l.fn.pool.operators;
  within : IsWithin l.pool.trees (get nat_eq l.done);
  tasks : AreTasks l.pool.trees l.rule l.term (get nat_eq l.done) [] (reverse l.tasks.items);
  right : (F : Tree → Tree) → IsExchange l.fn.pool.trees (image_in l.fn.pool.trees l.rule) F
      → Exchanged l.fn.pool.trees l.pool.trees F (get nat_eq l.done);
}

abbrev pub decreases-loop-task : goal.decreases-loop-task
decreases-loop-task l = sum_by (effort l.pool.trees) (reverse l.tasks.items)
