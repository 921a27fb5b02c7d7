use Rattle.std.proofs.Common.{◌≡◌, [], ◌∷◌, ◌++◌, arith}
use Rattle.std.proofs.lemmas.Grind.{common_steps}
use Rattle.larch_verify_pool.specs.Postorder.{postorder}
use Rattle.larch_verify_pool.proofs.Postorders.{order_more, waiting_less}
use Rattle.larch_verify_pool.proofs.interning.in_order.Goals as goal

pub loop-next-preserved : goal.loop-next-preserved
loop-next-preserved c =
    let w : c.loop-next.waiting.items ≡ c.pop.new.self.items ++ c.in-Some.next ∷ [] = grind (arith, common_steps) in
    let o : c.push-in-Some.new.self.items ≡ c.loop-next.order.items ++ c.in-Some.next ∷ [] =
    grind (arith, common_steps) in
    order_more c.loop-next.waiting.items c.pop.new.self.items c.push_arguments.new.waiting.items c.loop-next.order.items
    c.push-in-Some.new.self.items
    c.in-Some.next (λ t. t.now) (postorder c.args.term.now) w o c.in_ok-push_arguments.ensures c.loop-next.invariant

pub loop-next-smaller : goal.loop-next-smaller
loop-next-smaller c =
    let w : c.loop-next.waiting.items ≡ c.pop.new.self.items ++ c.in-Some.next ∷ [] = grind (arith, common_steps) in
    waiting_less c.loop-next.waiting.items c.pop.new.self.items c.push_arguments.new.waiting.items c.in-Some.next
    (λ t. t.now)
    w c.in_ok-push_arguments.ensures
