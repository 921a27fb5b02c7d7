use Rattle.std.proofs.Common.{refl}
use Rattle.larch_term.specs.OperatorKey.{same_operator}
use Rattle.larch_models_meaning.proofs.computed.generators_take_what_is_made.Goals as goal

pub returns : goal.returns
unfolding same_operator
returns c = refl
