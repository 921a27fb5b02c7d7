use Rattle.std.proofs.Common.{refl}
use Rattle.larch_duties_meaning.specs.Examples.{computing}
use Rattle.larch_duties_meaning.proofs.examples.clauses_are_copied.Goals as goal

pub returns : goal.returns
unfolding computing
returns c = refl
