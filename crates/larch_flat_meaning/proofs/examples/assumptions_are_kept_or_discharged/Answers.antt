use Rattle.std.proofs.Common.{refl}
use Rattle.larch_flat_meaning.specs.Examples.{computing}
use Rattle.larch_flat_meaning.proofs.examples.assumptions_are_kept_or_discharged.Goals as goal

pub returns-clause-assumed : goal.returns-clause-assumed
unfolding computing
returns-clause-assumed c = refl

pub returns-clause-taken_over : goal.returns-clause-taken_over
unfolding computing
returns-clause-taken_over c = refl

pub returns-clause-discharged : goal.returns-clause-discharged
unfolding computing
returns-clause-discharged c = refl

pub returns-clause-stated : goal.returns-clause-stated
unfolding computing
returns-clause-stated c = refl

pub returns-clause-asserted : goal.returns-clause-asserted
unfolding computing
returns-clause-asserted c = refl
