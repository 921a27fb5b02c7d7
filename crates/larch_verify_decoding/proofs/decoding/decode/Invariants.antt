use Rattle.std.proofs.Common.{◌≡◌, ◌<◌, [], All, length, map}
use Rattle.std.specs.Prelude.{reverse}
use Rattle.larch_verify_meaning.specs.Context.{find_symbol}
use Rattle.larch_verify_pool.specs.Pooled.{tree_in, Grows}
use Rattle.larch_verify_history.specs.Past.{history_of}
use Rattle.larch_verify_decoding.specs.Postorder.{postorder, values_after}
use Rattle.larch_verify_decoding.proofs.decoding.decode.Given as goal

abbrev pub invariant-loop-next : goal.invariant-loop-next
invariant-loop-next l = record {
  grows : Grows l.fn.pool l.pool;
  within : All (λ n. n < length l.pool.trees) l.values.items;
  value : values_after (find_symbol l.context.theory.now (history_of l.fn.pool l.context.past.now))
      (map (λ c. c.now) (reverse l.order.items)) (map (tree_in l.pool.trees) l.values.items)
      ≡ values_after (find_symbol l.context.theory.now (history_of l.fn.pool l.context.past.now)) (postorder l.term) [];
}

abbrev pub decreases-loop-next : goal.decreases-loop-next
decreases-loop-next l = length l.order.items
