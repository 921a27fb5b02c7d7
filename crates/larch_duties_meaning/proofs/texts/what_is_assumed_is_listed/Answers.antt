use Rattle.std.proofs.Common.{refl}
use Rattle.larch_duties_meaning.specs.Examples.{computing}
use Rattle.larch_duties_meaning.proofs.texts.what_is_assumed_is_listed.Goals as goal

pub returns-clause-assumed : goal.returns-clause-assumed
unfolding computing
returns-clause-assumed c = refl

pub returns-clause-discharged : goal.returns-clause-discharged
unfolding computing
returns-clause-discharged c = refl
