use Rattle.std.proofs.Common.{refl}
use Rattle.larch_duties_meaning.specs.Examples.{computing}
use Rattle.larch_duties_meaning.proofs.examples.what_is_implied_is_numbered.Goals as goal

pub returns-clause-item : goal.returns-clause-item
unfolding computing
returns-clause-item c = refl

pub returns-clause-items : goal.returns-clause-items
unfolding computing
returns-clause-items c = refl

pub returns-clause-reference : goal.returns-clause-reference
unfolding computing
returns-clause-reference c = refl

pub returns-clause-stated : goal.returns-clause-stated
unfolding computing
returns-clause-stated c = refl
