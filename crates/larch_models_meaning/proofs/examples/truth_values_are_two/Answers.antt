use Rattle.std.proofs.Common.{◌≡◌, zero, suc}
use Rattle.larch_models_meaning.proofs.examples.truth_values_are_two.Goals as goal

pub returns : goal.returns
returns c i = let one : zero ≡ suc zero = i.two_truth_values in cc
