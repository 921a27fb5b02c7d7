use Rattle.std.proofs.Common.{refl}
use Rattle.larch_flat_meaning.specs.Examples.{computing}
use Rattle.larch_flat_meaning.proofs.examples.a_formal_is_replaced.Goals as goal

pub returns : goal.returns
unfolding computing
returns c = refl
