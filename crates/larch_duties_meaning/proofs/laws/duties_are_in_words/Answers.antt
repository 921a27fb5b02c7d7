use Rattle.larch_duties_meaning.proofs.Words.{duties_words}
use Rattle.larch_duties_meaning.proofs.laws.duties_are_in_words.Goals as goal

pub returns : goal.returns
returns c = duties_words
