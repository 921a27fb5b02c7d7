use Rattle.std.proofs.Common.{refl}
use Rattle.larch_flat_meaning.specs.Examples.{computing}
use Rattle.larch_flat_meaning.proofs.examples.shorthands_stand_for_operators_and_statements.Goals as goal

pub returns : goal.returns
unfolding computing
returns c = refl
