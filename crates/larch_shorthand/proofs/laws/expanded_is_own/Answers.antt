use Rattle.larch_shorthand.proofs.Expansions.{expansion_own}
use Rattle.larch_shorthand.proofs.laws.expanded_is_own.Goals as goal

pub returns : goal.returns
returns c s e w h = expansion_own s e w h
