use Rattle.std.proofs.Common.{refl}
use Rattle.larch_complete_answer.specs.Examples.{telling}
use Rattle.larch_complete_answer.proofs.examples.an_end_is_told.Goals as goal

pub returns-clause-unoriented : goal.returns-clause-unoriented
unfolding telling
returns-clause-unoriented c = refl

pub returns-clause-limit : goal.returns-clause-limit
unfolding telling
returns-clause-limit c = refl

pub returns-clause-spent : goal.returns-clause-spent
unfolding telling
returns-clause-spent c = refl
