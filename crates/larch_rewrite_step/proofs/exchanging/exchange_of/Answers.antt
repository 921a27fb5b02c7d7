use Rattle.larch_rewrite_step.proofs.Exchange.{exchange_is, exchange_same}
use Rattle.larch_rewrite_step.proofs.exchanging.exchange_of.Goals as goal

pub returns : goal.returns
returns c =
    exchange_same c.args.term.now _ c.in_ok-sort.sort c.in_ok-by.by c.in-Some.ensures.some
    (exchange_is _ _ _ c.in_ok-sort.sort c.in_ok-by.by c.in_ok-sort.ensures c.in_ok-by.ensures)
