use Rattle.larch_main_files.proofs.Migrating.{there_is_migrated}
use Rattle.larch_main_files.proofs.laws.what_is_there_is_migrated.Goals as goal

pub returns : goal.returns
returns c = there_is_migrated
