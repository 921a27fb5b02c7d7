use Rattle.std.proofs.Common.{refl}
use Rattle.larch_flat_meaning.specs.Examples.{computing}
use Rattle.larch_flat_meaning.proofs.examples.names_are_exchanged_at_once.Goals as goal

pub returns : goal.returns
unfolding computing
returns c = refl
