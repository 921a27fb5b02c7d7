use Rattle.larch_rewrite_step.proofs.Exchange.{by_exchange, exchanged_by}
use Rattle.larch_derive.proofs.Growth.{extends_same, extends_trans, stays_said}
use Rattle.larch_rewrite_step.proofs.exchanging.push_exchanged.Goals as goal

pub returns-in_err-exchanged-clause-extends : goal.returns-in_err-exchanged-clause-extends
returns-in_err-exchanged-clause-extends c x r e h =
    by_exchange _ _ _ x r _ _ _ c.in_ok-exchange.ensures e h
    (λ s t st k p. c.in_err-exchanged.ensures.extends s t st k p)

pub returns-in_err-number-clause-extends : goal.returns-in_err-number-clause-extends
returns-in_err-number-clause-extends c x r e h =
    extends_trans _ _ _ (by_exchange _ _ _ x r _ _ _ c.in_ok-exchange.ensures e h
    (λ s t st k p. c.in_ok-exchanged.ensures.extends s t st k p)) (extends_same _ _ c.in_err-number.ensures.err)

pub returns-clause-says : goal.returns-clause-says
returns-clause-says c x r e h =
    c.in_ok-number.ensures.says x _ r
    (exchanged_by _ _ _ _ _ x r _ _ c.in_ok-exchange.ensures e h
    (λ s t st k p. c.in_ok-exchanged.ensures.says s t st k p))
    (stays_said _ _ _ _ (by_exchange _ _ _ x r _ _ _ c.in_ok-exchange.ensures e h
    (λ s t st k p. c.in_ok-exchanged.ensures.extends s t st k p)) h)

pub returns-clause-extends : goal.returns-clause-extends
returns-clause-extends c x r e h =
    extends_trans _ _ _ (by_exchange _ _ _ x r _ _ _ c.in_ok-exchange.ensures e h
    (λ s t st k p. c.in_ok-exchanged.ensures.extends s t st k p))
    (c.in_ok-number.ensures.extends x _ r
    (exchanged_by _ _ _ _ _ x r _ _ c.in_ok-exchange.ensures e h
    (λ s t st k p. c.in_ok-exchanged.ensures.says s t st k p))
    (stays_said _ _ _ _ (by_exchange _ _ _ x r _ _ _ c.in_ok-exchange.ensures e h
    (λ s t st k p. c.in_ok-exchanged.ensures.extends s t st k p)) h))
