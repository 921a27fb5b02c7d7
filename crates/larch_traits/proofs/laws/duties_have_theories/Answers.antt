use Rattle.larch_traits.proofs.Worded.{duties_are_plain, duties_are_theories}
use Rattle.larch_traits.proofs.laws.duties_have_theories.Goals as goal

pub returns-clause-sound : goal.returns-clause-sound
returns-clause-sound c = duties_are_theories

pub returns-clause-plain : goal.returns-clause-plain
returns-clause-plain c = duties_are_plain
