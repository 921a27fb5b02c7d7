use Rattle.larch_order.proofs.Computed.{computed, shown}
use Rattle.larch_order.proofs.Irreflexive.{transitive}
use Rattle.larch_order.proofs.laws.greater_is_transitive.Goals as goal

pub returns : goal.returns
returns c ranks s t u g h = shown ranks s u (transitive ranks s t u (computed g) (computed h))
