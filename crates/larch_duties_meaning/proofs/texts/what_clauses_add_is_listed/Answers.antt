use Rattle.std.proofs.Common.{refl}
use Rattle.larch_duties_meaning.specs.Examples.{computing}
use Rattle.larch_duties_meaning.proofs.texts.what_clauses_add_is_listed.Goals as goal

pub returns-clause-exempt : goal.returns-clause-exempt
unfolding computing
returns-clause-exempt c = refl

pub returns-clause-clauses : goal.returns-clause-clauses
unfolding computing
returns-clause-clauses c = refl
