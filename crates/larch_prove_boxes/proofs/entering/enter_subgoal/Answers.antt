use Rattle.std.proofs.Common.{ap}
use Rattle.larch_prove_invariant.specs.ProvePlansSubgoalsSubgoal.{Subgoal}
use Rattle.larch_prove_boxes.proofs.Entrances.{bare_shape, bare_supposes_nothing, boxed_shape, goal_inside, goal_there}
use Rattle.larch_prove_boxes.proofs.Entrances.{subgoal_begins}
use Rattle.larch_prove_boxes.proofs.Results.{ok_kept}
use Rattle.larch_prove_boxes.proofs.entering.enter_subgoal.Goals as goal

pub returns-then-opens_boxes : goal.returns-then-opens_boxes
returns-then-opens_boxes c =
    ok_kept _ _ c.enter_box.result c.enter_box.ensures (λ entrance f t s cs levels k ks r g h e m i q.
    let w = boxed_shape r.method _ g _ m (c.opens_boxes.ensures g) c.if-opens_boxes.true in
    f r.method g q w (subgoal_begins t s _ cs levels k ks r g h e i) (goal_inside t s _ cs levels k ks r g h e i w))

pub returns : goal.returns
returns c =
    ok_kept _ _ c.enter_bare.result c.enter_bare.ensures (λ entrance f t s cs levels k ks r g h e m i q.
    let w = bare_shape r.method _ g _ m (c.opens_boxes.ensures g) c.if-opens_boxes.false in
    f r.method g (ap (λ (x : Subgoal). x.goal) q) (bare_supposes_nothing t s _ cs levels k ks r g h e i w) w
    (goal_there t s _ cs levels k ks r g h e i w))
