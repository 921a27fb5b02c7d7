use Rattle.larch_grammar.proofs.Law.{reference_law}
use Rattle.larch_grammar.proofs.laws.front_of_references_is_grammar.Goals as goal

pub returns : goal.returns
returns c = reference_law
