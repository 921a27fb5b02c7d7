use Rattle.std.proofs.Common.{refl}
use Rattle.larch_duties_meaning.specs.Examples.{computing}
use Rattle.larch_duties_meaning.proofs.texts.operators_statements_and_duties_are_listed.Goals as goal

pub returns-clause-implied : goal.returns-clause-implied
unfolding computing
returns-clause-implied c = refl

pub returns-clause-clause : goal.returns-clause-clause
unfolding computing
returns-clause-clause c = refl
