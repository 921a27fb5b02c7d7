use Rattle.std.proofs.Common.{refl}
use Rattle.larch_duties_meaning.specs.Examples.{computing}
use Rattle.larch_duties_meaning.proofs.examples.copies_have_free_names.Goals as goal

pub returns-clause-primed : goal.returns-clause-primed
unfolding computing
returns-clause-primed c = refl

pub returns-clause-symbol : goal.returns-clause-symbol
unfolding computing
returns-clause-symbol c = refl

pub returns-clause-second : goal.returns-clause-second
unfolding computing
returns-clause-second c = refl

pub returns-clause-symbol_primed : goal.returns-clause-symbol_primed
unfolding computing
returns-clause-symbol_primed c = refl
