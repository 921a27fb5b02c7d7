use Rattle.std.proofs.Common.{refl}
use Rattle.larch_term.specs.OperatorKey.{same_operator}
use Rattle.larch_models_meaning.proofs.computed.meanings_of_operators.Goals as goal

pub returns : goal.returns
unfolding same_operator
returns c = record { implication = λ last tables. refl; choice = λ last tables. refl }
