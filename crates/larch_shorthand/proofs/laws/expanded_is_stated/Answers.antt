use Rattle.larch_shorthand.proofs.Expansions.{expansion_stated}
use Rattle.larch_shorthand.proofs.laws.expanded_is_stated.Goals as goal

pub returns : goal.returns
returns c s e h = expansion_stated s e h
