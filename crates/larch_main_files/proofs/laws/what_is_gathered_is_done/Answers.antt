use Rattle.larch_main_files.proofs.Complete.{there_is_done}
use Rattle.larch_main_files.proofs.laws.what_is_gathered_is_done.Goals as goal

pub returns : goal.returns
returns c = there_is_done
