use Rattle.std.proofs.Common.{refl}
use Rattle.larch_term.specs.OperatorKey.{same_operator}
use Rattle.larch_calculus.specs.Example.{numbers}
use Rattle.larch_models_meaning.specs.Examples.{two_values, bits, sum_of_bits}
use Rattle.larch_soundness.proofs.Computing.{model_so}
use Rattle.larch_soundness.proofs.Standards.{standard_interprets}
use Rattle.larch_soundness.proofs.examples.numbers_modulo_two.Goals as goal

pub returns : goal.returns
unfolding same_operator
returns c = model_so (standard_interprets two_values (bits sum_of_bits) numbers.operators) refl
