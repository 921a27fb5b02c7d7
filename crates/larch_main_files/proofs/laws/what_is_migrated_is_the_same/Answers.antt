use Rattle.larch_main_files.proofs.Migrating.{migrated_is_same}
use Rattle.larch_main_files.proofs.laws.what_is_migrated_is_the_same.Goals as goal

pub returns : goal.returns
returns c = migrated_is_same
