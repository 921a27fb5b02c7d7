use Rattle.larch_prove_boxes.proofs.Results.{ok_kept, there_too}
use Rattle.larch_prove_boxes.proofs.Wants.{other_said, two_extends, two_said}
use Rattle.larch_prove_boxes.proofs.saying.say_observed.Goals as goal

pub returns-in_default-clause-says : goal.returns-in_default-clause-says
returns-in_default-clause-says c q h = other_said _ _ _ c.in_default.ensures.none h

pub returns-clause-says : goal.returns-clause-says
returns-clause-says c =
    ok_kept _ _ c.push_equation.result c.push_equation.ensures.says (λ n f q h.
    two_said _ _ c.args.goal.now _ _ _ c.args.line n c.in-Some.ensures.some f q h)

pub returns-clause-extends : goal.returns-clause-extends
returns-clause-extends c =
    there_too _ c.push_equation.result (λ q h.
    two_extends _ _ c.args.goal.now _ _ _ c.args.line c.in-Some.ensures.some c.push_equation.ensures.extends q h)
