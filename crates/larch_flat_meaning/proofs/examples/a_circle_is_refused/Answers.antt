use Rattle.std.proofs.Common.{refl}
use Rattle.larch_flat_meaning.specs.Examples.{computing}
use Rattle.larch_flat_meaning.proofs.examples.a_circle_is_refused.Goals as goal

pub returns-clause-first : goal.returns-clause-first
unfolding computing
returns-clause-first c = refl

pub returns-clause-second : goal.returns-clause-second
unfolding computing
returns-clause-second c = refl

pub returns-clause-mended : goal.returns-clause-mended
unfolding computing
returns-clause-mended c = refl
