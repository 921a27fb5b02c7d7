use Rattle.std.proofs.Common.{arith}
use Rattle.std.proofs.lemmas.Result.{err_from_is_err_and}
use Rattle.larch_derive.proofs.Growth.{extends_trans}
use Rattle.larch_rewrite_step.proofs.DeriveLinesWays.{leads_stays}
use Rattle.larch_rewrite.proofs.Roots.{application_tells}
use Rattle.larch_rewrite.proofs.applying.apply.Goals as goal

pub returns-in_err-term-clause-refused : goal.returns-in_err-term-clause-refused
returns-in_err-term-clause-refused c =
    let p = err_from_is_err_and c.from_residual.result c.from_residual.ensures.1 in
    rw (p.1, p.2)
    (λ rs t s n. application_tells rs t _ _ _
    (λ q. omega (arith, q, c.if-means-eq0.false)) s n c.in_err-term.ensures.refused)

pub returns-in_err-line-clause-extends : goal.returns-in_err-line-clause-extends
returns-in_err-line-clause-extends c s t k h b d w =
    extends_trans _ _ _ (c.in_ok-term.ensures.extends t k h b d)
    (c.in_err-line.ensures.extends s t _ (leads_stays _ _ _ s t (c.in_ok-term.ensures.extends t k h b d) w)
    (c.in_ok-term.ensures.says t k h b d))

pub returns-clause-says : goal.returns-clause-says
returns-clause-says c s t k h b d w =
    c.in_ok-line.ensures.says s t _ (leads_stays _ _ _ s t (c.in_ok-term.ensures.extends t k h b d) w)
    (c.in_ok-term.ensures.says t k h b d)

pub returns-clause-extends : goal.returns-clause-extends
returns-clause-extends c s t k h b d w =
    extends_trans _ _ _ (c.in_ok-term.ensures.extends t k h b d)
    (c.in_ok-line.ensures.extends s t _ (leads_stays _ _ _ s t (c.in_ok-term.ensures.extends t k h b d) w)
    (c.in_ok-term.ensures.says t k h b d))
