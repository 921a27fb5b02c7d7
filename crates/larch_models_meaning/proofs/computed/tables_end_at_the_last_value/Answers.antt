use Rattle.std.proofs.Common.{refl}
use Rattle.larch_term.specs.OperatorKey.{same_operator}
use Rattle.larch_models_meaning.proofs.computed.tables_end_at_the_last_value.Goals as goal

pub returns : goal.returns
unfolding same_operator
returns c = refl
