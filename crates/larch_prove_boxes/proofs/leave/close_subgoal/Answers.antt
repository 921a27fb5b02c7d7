use Rattle.std.proofs.Common.{subst, sym}
use Rattle.larch_derive.specs.Predicates.{HasEquation}
use Rattle.larch_prove_invariant.specs.Holding.{said_of}
use Rattle.larch_prove_invariant.specs.ProvePlansPlanning.{method_of}
use Rattle.larch_prove_boxes.specs.Saying.{MaySay}
use Rattle.larch_prove_boxes.proofs.Closes.{box_closed, goal_said, may_say}
use Rattle.larch_prove_boxes.proofs.leave.close_subgoal.Goals as goal

pub returns : goal.returns
returns c t s a cs levels k j ks r x h m q e i =
    let b = c.args.builder.now in
    let may = subst (MaySay b (method_of c.args.method.now) r.now) i
    (subst (λ n. MaySay b n r.now x.box.number) m (may_say t s a b cs levels k j ks r _ x h e)) in
    let goal = goal_said t s a b cs levels k j ks r _ h in
    box_closed t s a b _ _ cs levels k j ks r _ c.in_ok-said.said x h e (c.in_ok-said.ensures.extends r.now q may goal)
    (subst (λ n. HasEquation c.say_left.new.builder c.in_ok-said.said (said_of n r.now).left (said_of n r.now).right)
    (sym m) (c.in_ok-said.ensures.says r.now q may goal)) c.in_ok-close_box.ensures.result
    c.in_ok-close_box.ensures.grows
