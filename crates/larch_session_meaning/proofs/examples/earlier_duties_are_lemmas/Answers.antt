use Rattle.std.proofs.Common.{refl}
use Rattle.larch_session_meaning.specs.Examples.{reporting}
use Rattle.larch_session_meaning.proofs.examples.earlier_duties_are_lemmas.Goals as goal

pub returns-clause-proved : goal.returns-clause-proved
unfolding reporting
returns-clause-proved c = refl

pub returns-clause-suspended : goal.returns-clause-suspended
unfolding reporting
returns-clause-suspended c = refl
