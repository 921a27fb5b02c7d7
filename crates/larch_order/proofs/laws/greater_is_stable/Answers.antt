use Rattle.larch_term.specs.Substitution.{instance_of}
use Rattle.larch_order.proofs.Computed.{computed, shown}
use Rattle.larch_order.proofs.Stable.{stable}
use Rattle.larch_order.proofs.laws.greater_is_stable.Goals as goal

pub returns : goal.returns
returns c ranks es t u g = shown ranks (instance_of es t) (instance_of es u) (stable ranks es t u (computed g))
