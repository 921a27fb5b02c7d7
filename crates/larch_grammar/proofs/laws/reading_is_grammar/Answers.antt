use Rattle.larch_grammar.proofs.Readings.{reading}
use Rattle.larch_grammar.proofs.laws.reading_is_grammar.Goals as goal

pub returns : goal.returns
returns c = reading
