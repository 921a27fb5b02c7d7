use Rattle.larch_derive.proofs.Words.{theory_worded, known_worded, known_sort, said_worded}
use Rattle.larch_derive.proofs.laws.words.Goals as goal

pub returns : goal.returns
returns c = record { theory = theory_worded; known = known_worded; sort = known_sort; said = said_worded }
