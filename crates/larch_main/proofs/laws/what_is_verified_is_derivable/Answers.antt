use Rattle.larch_main_files.proofs.Accepted.{shown}
use Rattle.larch_main.proofs.laws.what_is_verified_is_derivable.Goals as goal

pub returns : goal.returns
returns c asked names folder input output is =
    shown c.accepted_is_derivable.ensures.verdict asked names folder output is
