use Rattle.std.proofs.Common.{refl}
use Rattle.larch_complete_answer.specs.Examples.{telling}
use Rattle.larch_complete_answer.proofs.examples.a_completion_is_told.Goals as goal

pub returns-clause-two : goal.returns-clause-two
unfolding telling
returns-clause-two c = refl

pub returns-clause-none : goal.returns-clause-none
unfolding telling
returns-clause-none c = refl
