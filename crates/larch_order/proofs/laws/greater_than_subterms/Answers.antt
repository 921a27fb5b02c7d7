use Rattle.larch_order.proofs.Computed.{shown}
use Rattle.larch_order.proofs.OrderingLaws.{subterm_below}
use Rattle.larch_order.proofs.laws.greater_than_subterms.Goals as goal

pub returns : goal.returns
returns c ranks t u k p e = shown ranks t u (subterm_below ranks t u k p e)
