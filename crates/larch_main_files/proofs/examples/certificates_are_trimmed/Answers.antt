use Rattle.std.proofs.Common.{refl}
use Rattle.larch_main_files.specs.Examples.{answering}
use Rattle.larch_main_files.proofs.examples.certificates_are_trimmed.Goals as goal

pub returns-clause-idle : goal.returns-clause-idle
unfolding answering
returns-clause-idle c = (refl, refl)

pub returns-clause-again : goal.returns-clause-again
unfolding answering
returns-clause-again c = (refl, refl)

pub returns-clause-refused : goal.returns-clause-refused
unfolding answering
returns-clause-refused c = (refl, refl)

pub returns-clause-malformed : goal.returns-clause-malformed
unfolding answering
returns-clause-malformed c = (refl, refl)

pub returns-clause-no_duty : goal.returns-clause-no_duty
unfolding answering
returns-clause-no_duty c = (refl, refl)
