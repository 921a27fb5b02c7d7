use Rattle.larch_main_files.proofs.Trimmed.{trimmed}
use Rattle.larch_main.proofs.laws.what_is_trimmed_is_accepted.Goals as goal

pub returns : goal.returns
returns c asked names folder input output is =
    trimmed c.accepted_is_derivable.ensures.verdict asked names folder output is
