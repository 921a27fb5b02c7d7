use Rattle.std.proofs.Common.{refl}
use Rattle.larch_duties_meaning.specs.Examples.{computing}
use Rattle.larch_duties_meaning.proofs.examples.duties_are_not_too_many.Goals as goal

pub returns-clause-refused : goal.returns-clause-refused
unfolding computing
returns-clause-refused c = refl

pub returns-clause-fit : goal.returns-clause-fit
unfolding computing
returns-clause-fit c = refl
