use Rattle.std.proofs.Common.{subst, sym}
use Rattle.larch_term.specs.Tree.{Tree}
use Rattle.larch_term.specs.Truth.{truth}
use Rattle.larch_derive.specs.Predicates.{HasEquation}
use Rattle.larch_prove_invariant.specs.MethodsMethods.{IsKnownFormula}
use Rattle.larch_prove_invariant.specs.Holding.{premise}
use Rattle.larch_prove_boxes.proofs.Results.{ok_kept, there_too}
use Rattle.larch_prove_boxes.proofs.saying.say_implied.Goals as goal

pub returns-clause-says : goal.returns-clause-says
returns-clause-says c =
    ok_kept _ _ c.push_implied.result c.push_implied.ensures.says (λ n f g e k h.
    let w = c.in_ok-whole.ensures g e in
    subst (λ (t : Tree). HasEquation c.push_implied.new.builder n t truth) w
    (f (premise g.hypotheses) g.goal w (subst (IsKnownFormula c.args.builder.now) (sym w) k) h))

pub returns-clause-extends : goal.returns-clause-extends
returns-clause-extends c =
    there_too _ c.push_implied.result (λ g e k h.
    let w = c.in_ok-whole.ensures g e in
    c.push_implied.ensures.extends (premise g.hypotheses) g.goal w
    (subst (IsKnownFormula c.args.builder.now) (sym w) k) h)
