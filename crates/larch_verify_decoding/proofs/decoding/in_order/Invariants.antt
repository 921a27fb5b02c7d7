use Rattle.std.proofs.Common.{◌≡◌, ◌++◌, length, map}
use Rattle.std.specs.Prelude.{reverse}
use Rattle.larch_verify_decoding.specs.Postorder.{postorder, postorders}
use Rattle.larch_verify_decoding.proofs.decoding.in_order.Given as goal

abbrev pub invariant-loop-next : goal.invariant-loop-next
invariant-loop-next l =
    postorders (map (λ c. c.now) l.waiting.items) ++ map (λ c. c.now) (reverse l.order.items) ≡ postorder l.term

abbrev pub decreases-loop-next : goal.decreases-loop-next
decreases-loop-next l = length (postorders (map (λ c. c.now) l.waiting.items))
