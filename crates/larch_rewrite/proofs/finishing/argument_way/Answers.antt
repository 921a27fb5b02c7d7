use Rattle.std.proofs.Common.{subst}
use Rattle.larch_derive.proofs.Growth.{extends_trans, stays_said}
use Rattle.larch_rewrite_step.specs.DeriveLinesWay.{Leads}
use Rattle.larch_rewrite.proofs.finishing.argument_way.Goals as goal

pub returns-in_err-changed-clause-extends : goal.returns-in_err-changed-clause-extends
returns-in_err-changed-clause-extends c t u f done rest e k l w d =
    let x = c.in_ok-line.ensures.extends _ k w d in
    let h = subst (λ o. Leads c.args.builder.now o t u) c.in-Some.is l in
    extends_trans _ _ _ x
    (c.in_err-changed.ensures.extends _ t u f done rest e (c.in_ok-line.ensures.says _ k w d) (stays_said _ _ _ _ x h))

pub returns-clause-says : goal.returns-clause-says
returns-clause-says c t u f done rest e k l w d =
    let x = c.in_ok-line.ensures.extends _ k w d in
    let h = subst (λ o. Leads c.args.builder.now o t u) c.in-Some.is l in
    c.in_ok-changed.ensures.says _ t u f done rest e (c.in_ok-line.ensures.says _ k w d) (stays_said _ _ _ _ x h)

pub returns-clause-extends : goal.returns-clause-extends
returns-clause-extends c t u f done rest e k l w d =
    let x = c.in_ok-line.ensures.extends _ k w d in
    let h = subst (λ o. Leads c.args.builder.now o t u) c.in-Some.is l in
    extends_trans _ _ _ x
    (c.in_ok-changed.ensures.extends _ t u f done rest e (c.in_ok-line.ensures.says _ k w d) (stays_said _ _ _ _ x h))
