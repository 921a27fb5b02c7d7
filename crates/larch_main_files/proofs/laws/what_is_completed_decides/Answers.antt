use Rattle.larch_main_files.proofs.Completed.{completed_decides}
use Rattle.larch_main_files.proofs.laws.what_is_completed_decides.Goals as goal

pub returns : goal.returns
returns c = completed_decides c.what_is_told_complete_decides.ensures
