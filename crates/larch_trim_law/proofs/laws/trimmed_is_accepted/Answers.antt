use Rattle.larch_trim_meaning.specs.Trimmed.{needed_marks}
use Rattle.larch_trim_law.proofs.Accepted.{kept_accepted}
use Rattle.larch_trim_law.proofs.Needed.{needed_whole}
use Rattle.larch_trim_law.proofs.laws.trimmed_is_accepted.Goals as goal

pub returns : goal.returns
returns c t s lines sorted plain a =
    kept_accepted t sorted plain lines (needed_marks lines) (needed_whole t s lines a) s a
