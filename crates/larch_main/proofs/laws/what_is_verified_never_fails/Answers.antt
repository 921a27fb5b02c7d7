use Rattle.larch_main_files.proofs.Accepted.{never_fails}
use Rattle.larch_main.proofs.laws.what_is_verified_never_fails.Goals as goal

pub returns : goal.returns
returns c asked tried names folder input output given text status same verified answers here h =
    never_fails c.accepted_is_derivable.ensures.verdict asked names folder output verified tried.stem tried.model text
    status same here answers h
