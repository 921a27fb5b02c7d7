use Rattle.std.proofs.Common.{refl}
use Rattle.larch_duties_meaning.specs.Examples.{computing}
use Rattle.larch_duties_meaning.proofs.examples.what_is_wrong_with_an_implied_reference.Goals as goal

pub returns-clause-bad : goal.returns-clause-bad
unfolding computing
returns-clause-bad c = refl

pub returns-clause-rename : goal.returns-clause-rename
unfolding computing
returns-clause-rename c = refl

pub returns-clause-count : goal.returns-clause-count
unfolding computing
returns-clause-count c = refl
