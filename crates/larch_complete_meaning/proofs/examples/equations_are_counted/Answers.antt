use Rattle.std.specs.Prelude.{refl}
use Rattle.larch_complete_meaning.specs.Computing.{completing}
use Rattle.larch_complete_meaning.proofs.examples.equations_are_counted.Goals as goal

pub returns-clause-last : goal.returns-clause-last
unfolding completing
returns-clause-last c = refl

pub returns-clause-more : goal.returns-clause-more
unfolding completing
returns-clause-more c = refl
