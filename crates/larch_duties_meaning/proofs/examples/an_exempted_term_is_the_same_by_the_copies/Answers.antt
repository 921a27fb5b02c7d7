use Rattle.std.proofs.Common.{refl}
use Rattle.larch_duties_meaning.specs.Examples.{computing}
use Rattle.larch_duties_meaning.proofs.examples.an_exempted_term_is_the_same_by_the_copies.Goals as goal

pub returns : goal.returns
unfolding computing
returns c = refl
