use Rattle.std.proofs.Common.{refl}
use Rattle.larch_pairs_critical.specs.Examples.{computing}
use Rattle.larch_pairs_critical.proofs.examples.roots_and_variables_are_left_out.Goals as goal

pub returns : goal.returns
unfolding computing
returns c = refl
