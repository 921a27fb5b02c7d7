use Rattle.larch_order.proofs.Computed.{is_computed}
use Rattle.larch_order.proofs.laws.greater_is_computed.Goals as goal

pub returns : goal.returns
returns c = is_computed
