use Rattle.larch_grammar.proofs.Words.{trait_worded}
use Rattle.larch_grammar.proofs.laws.words_of_raw_trait.Goals as goal

pub returns : goal.returns
returns c = trait_worded
