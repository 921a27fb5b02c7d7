use Rattle.std.proofs.Common.{refl}
use Rattle.larch_main_files.specs.Examples.{answering}
use Rattle.larch_main_files.proofs.examples.models_are_told.Goals as goal

pub returns-clause-holds : goal.returns-clause-holds
unfolding answering
returns-clause-holds c = (refl, refl)

pub returns-clause-fails : goal.returns-clause-fails
unfolding answering
returns-clause-fails c = (refl, refl)

pub returns-clause-malformed : goal.returns-clause-malformed
unfolding answering
returns-clause-malformed c = (refl, refl)

pub returns-clause-no_trait : goal.returns-clause-no_trait
unfolding answering
returns-clause-no_trait c = (refl, refl)
