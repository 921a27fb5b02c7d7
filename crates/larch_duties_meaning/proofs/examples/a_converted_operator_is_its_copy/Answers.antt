use Rattle.std.proofs.Common.{refl}
use Rattle.larch_duties_meaning.specs.Examples.{computing}
use Rattle.larch_duties_meaning.proofs.examples.a_converted_operator_is_its_copy.Goals as goal

pub returns : goal.returns
unfolding computing
returns c = refl
