use Rattle.std.proofs.Common.{refl}
use Rattle.larch_pairs_critical.specs.Examples.{computing}
use Rattle.larch_pairs_critical.proofs.examples.variables_are_set_apart.Goals as goal

pub returns : goal.returns
unfolding computing
returns c = refl
