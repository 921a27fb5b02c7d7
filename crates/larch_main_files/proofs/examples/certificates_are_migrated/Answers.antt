use Rattle.std.proofs.Common.{refl}
use Rattle.larch_main_files.specs.Examples.{answering}
use Rattle.larch_main_files.proofs.examples.certificates_are_migrated.Goals as goal

pub returns-clause-first : goal.returns-clause-first
unfolding answering
returns-clause-first c = (refl, refl)

pub returns-clause-second : goal.returns-clause-second
unfolding answering
returns-clause-second c = (refl, refl)

pub returns-clause-malformed : goal.returns-clause-malformed
unfolding answering
returns-clause-malformed c = (refl, refl)

pub returns-clause-absent : goal.returns-clause-absent
unfolding answering
returns-clause-absent c = (refl, refl)
