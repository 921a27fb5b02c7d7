use Rattle.larch_grammar.proofs.Law.{term_law}
use Rattle.larch_grammar.proofs.laws.front_is_grammar.Goals as goal

pub returns : goal.returns
returns c = term_law
