use Rattle.larch_trim_law.proofs.Again.{trimmed_again}
use Rattle.larch_trim_law.proofs.laws.trimming_twice_is_once.Goals as goal

pub returns : goal.returns
returns c t s lines a = trimmed_again t s lines a
