use Rattle.larch_main_files.proofs.Complete.{all_is_there}
use Rattle.larch_main_files.proofs.laws.what_is_there_is_gathered.Goals as goal

pub returns : goal.returns
returns c = all_is_there
