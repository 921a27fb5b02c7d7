use Rattle.larch_grammar.proofs.Readings.{one_trait_of_all}
use Rattle.larch_grammar.proofs.laws.one_raw_trait.Goals as goal

pub returns : goal.returns
returns c = one_trait_of_all
