use Rattle.std.proofs.Common.{refl}
use Rattle.larch_term.specs.OperatorKey.{same_operator}
use Rattle.larch_models_meaning.proofs.computed.modulo_two_is_right.Goals as goal

pub returns : goal.returns
unfolding same_operator
returns c = record { theory = refl; from_nought = refl; from_successor = refl }
