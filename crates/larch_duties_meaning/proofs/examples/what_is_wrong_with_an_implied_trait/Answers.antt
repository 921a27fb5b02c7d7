use Rattle.std.proofs.Common.{refl}
use Rattle.larch_duties_meaning.specs.Examples.{computing}
use Rattle.larch_duties_meaning.proofs.examples.what_is_wrong_with_an_implied_trait.Goals as goal

pub returns-clause-larger : goal.returns-clause-larger
unfolding computing
returns-clause-larger c = refl

pub returns-clause-missing : goal.returns-clause-missing
unfolding computing
returns-clause-missing c = refl
