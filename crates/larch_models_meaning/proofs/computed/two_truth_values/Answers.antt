use Rattle.std.proofs.Common.{refl}
use Rattle.larch_term.specs.OperatorKey.{same_operator}
use Rattle.larch_models_meaning.proofs.computed.two_truth_values.Goals as goal

pub returns : goal.returns
unfolding same_operator
returns c = record { both = λ last tables. refl; true_alone = λ last tables. refl; false_alone = λ last tables. refl }
