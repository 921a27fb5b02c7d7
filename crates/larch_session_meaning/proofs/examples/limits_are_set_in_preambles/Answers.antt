use Rattle.std.proofs.Common.{refl}
use Rattle.larch_session_meaning.specs.Examples.{reporting}
use Rattle.larch_session_meaning.proofs.examples.limits_are_set_in_preambles.Goals as goal

pub returns-clause-limit : goal.returns-clause-limit
unfolding reporting
returns-clause-limit c = refl

pub returns-clause-refused : goal.returns-clause-refused
unfolding reporting
returns-clause-refused c = refl
