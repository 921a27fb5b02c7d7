use Rattle.larch_grammar.proofs.Stands.{flaw_stands}
use Rattle.larch_grammar.proofs.laws.flaw_stands_in_any_trait.Goals as goal

pub returns : goal.returns
returns c = flaw_stands
