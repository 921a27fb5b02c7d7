use Rattle.std.proofs.Common.{refl}
use Rattle.larch_main_files.specs.Examples.{answering}
use Rattle.larch_main_files.proofs.examples.rules_are_told.Goals as goal

pub returns-clause-complete : goal.returns-clause-complete
unfolding answering
returns-clause-complete c = (refl, refl)

pub returns-clause-unoriented : goal.returns-clause-unoriented
unfolding answering
returns-clause-unoriented c = (refl, refl)

pub returns-clause-no_trait : goal.returns-clause-no_trait
unfolding answering
returns-clause-no_trait c = (refl, refl)
