use Rattle.std.proofs.Common.{refl}
use Rattle.larch_duties_meaning.specs.Examples.{computing}
use Rattle.larch_duties_meaning.proofs.examples.what_is_assumed_is_discharged.Goals as goal

pub returns-clause-included : goal.returns-clause-included
unfolding computing
returns-clause-included c = refl

pub returns-clause-implied_too : goal.returns-clause-implied_too
unfolding computing
returns-clause-implied_too c = refl
