use Rattle.std.proofs.Common.{refl}
use Rattle.larch_main_files.specs.Examples.{answering}
use Rattle.larch_main_files.proofs.examples.a_wrong_trait_is_told.Goals as goal

pub returns-clause-check : goal.returns-clause-check
unfolding answering
returns-clause-check c = (refl, refl)

pub returns-clause-obligations : goal.returns-clause-obligations
unfolding answering
returns-clause-obligations c = (refl, refl)
