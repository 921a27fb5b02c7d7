use Rattle.std.proofs.Common.{◌≡◌, ◌++◌, length, map}
use Rattle.std.specs.Prelude.{reverse}
use Rattle.larch_verify_pool.specs.Postorder.{postorder, postorders}
use Rattle.larch_verify_pool.proofs.interning.in_order.Given as goal

abbrev pub invariant-loop-next : goal.invariant-loop-next
invariant-loop-next l =
    postorders (map (λ t. t.now) l.waiting.items) ++ map (λ t. t.now) (reverse l.order.items) ≡ postorder l.term

abbrev pub decreases-loop-next : goal.decreases-loop-next
decreases-loop-next l = length (postorders (map (λ t. t.now) l.waiting.items))
