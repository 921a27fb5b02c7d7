use Rattle.larch_trim_law.proofs.Again.{all_needed}
use Rattle.larch_trim_law.proofs.laws.trimmed_lines_are_needed.Goals as goal

pub returns : goal.returns
returns c t s lines a n lt le = all_needed t s lines a n lt le
