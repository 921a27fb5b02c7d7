use Rattle.std.proofs.Common.{◌≡◌, ◌<◌, ◌∷◌, [], All, length, map}
use Rattle.std.specs.Prelude.{reverse}
use Rattle.larch_verify_pool.specs.Pooled.{tree_in, Grows}
use Rattle.larch_verify_pool.specs.Postorder.{read_all}
use Rattle.larch_verify_pool.proofs.interning.intern_term.Given as goal

abbrev pub invariant-loop-next : goal.invariant-loop-next
invariant-loop-next l = record {
  grows : Grows l.fn.pool l.pool;
  within : All (λ n. n < length l.pool.trees) l.numbers.items;
  trees : read_all (map (tree_in l.pool.trees) l.numbers.items) (map (λ t. t.now) (reverse l.order.items))
      ≡ l.term ∷ [];
}

abbrev pub decreases-loop-next : goal.decreases-loop-next
decreases-loop-next l = length l.order.items
