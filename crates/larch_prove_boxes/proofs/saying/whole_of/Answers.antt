use Rattle.std.proofs.Common.{ap, ap₂, ◌∙◌}
use Rattle.larch_calculus.specs.Formula.{implication}
use Rattle.larch_prove_invariant.specs.ProvePlansSubgoalsSubgoal.{Subgoal}
use Rattle.larch_prove_boxes.proofs.Results.{ok_kept}
use Rattle.larch_prove_boxes.proofs.saying.whole_of.Goals as goal

pub returns : goal.returns
returns c =
    ok_kept _ _ c.implication.result c.implication.ensures (λ t is g e.
    is ∙ ap₂ implication
    (c.in_ok-premise.ensures g.hypotheses (c.as_slice.ensures ∙ ap (λ (s : Subgoal). s.hypotheses) e))
    (c.in_ok-goal.ensures ∙ ap (λ (s : Subgoal). s.goal) e))
