use Rattle.larch_rewrite_step.proofs.Exchange.{row_exchanges, exchange_says, exchange_extends, pair_sort}
use Rattle.larch_derive.proofs.Growth.{extends_same, extends_trans}
use Rattle.larch_rewrite_step.proofs.exchanging.push_exchange.Goals as goal

pub returns-in_err-number-clause-extends : goal.returns-in_err-number-clause-extends
returns-in_err-number-clause-extends c s t st k e =
    extends_trans _ _ _ (c.in_ok-row.ensures.extends _ st (row_exchanges _) (pair_sort _ _ s t _ k e))
    (extends_same _ _ c.in_err-number.ensures.err)

pub returns-clause-says : goal.returns-clause-says
returns-clause-says c s t st k e =
    exchange_says _ _ _ _ _ _ s t _ k e (c.in_ok-row.ensures.extends _ st (row_exchanges _) (pair_sort _ _ s t _ k e))
    (c.in_ok-row.ensures.says _ st (row_exchanges _) (pair_sort _ _ s t _ k e))
    (λ l r h j d. c.in_ok-number.ensures.says l r h j d)

pub returns-clause-extends : goal.returns-clause-extends
returns-clause-extends c s t st k e =
    extends_trans _ _ _ (c.in_ok-row.ensures.extends _ st (row_exchanges _) (pair_sort _ _ s t _ k e))
    (exchange_extends _ _ _ _ _ s t _ k e (c.in_ok-row.ensures.extends _ st (row_exchanges _) (pair_sort _ _ s t _ k e))
    (c.in_ok-row.ensures.says _ st (row_exchanges _) (pair_sort _ _ s t _ k e))
    (λ l r h j d. c.in_ok-number.ensures.extends l r h j d))
