use Rattle.larch_words.proofs.Checked.{names_generated}
use Rattle.larch_words.proofs.laws.generations_are_small.Goals as goal

pub returns-clause-seed : goal.returns-clause-seed
returns-clause-seed c words traits e = (names_generated words traits e).0

pub returns-clause-size : goal.returns-clause-size
returns-clause-size c words traits e = (names_generated words traits e).1.0

pub returns-clause-some : goal.returns-clause-some
returns-clause-some c words traits e = (names_generated words traits e).1.1
