use Rattle.larch_prove_boxes.proofs.Ends.{equation_finished}
use Rattle.larch_prove_boxes.proofs.finishing.end_equation.Goals as goal

pub returns : goal.returns
returns c t s w h =
    let e = c.in_ok-said.ensures.says h in
    equation_finished t s _ _ _ _ _ _ _ w (c.in_ok-said.ensures.extends h) e (c.in_ok-push_again.ensures.extends _ _ e)
    (c.in_ok-push_again.ensures.says _ _ e) c.in_ok-push_again.ensures.last
