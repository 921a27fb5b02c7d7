use Rattle.std.specs.Prelude.{refl}
use Rattle.larch_complete_meaning.specs.Computing.{completing}
use Rattle.larch_complete_meaning.proofs.examples.the_order_of_operators_counts.Goals as goal

pub returns : goal.returns
unfolding completing
returns c = refl
