use Rattle.std.proofs.Common.{refl}
use Rattle.larch_term.specs.OperatorKey.{same_operator}
use Rattle.larch_models_meaning.proofs.computed.one_entry_is_wrong.Goals as goal

pub returns : goal.returns
unfolding same_operator
returns c = refl
