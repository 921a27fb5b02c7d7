use Rattle.larch_pairs.proofs.Solving.{most_general}
use Rattle.larch_pairs.proofs.laws.unifiers_are_most_general.Goals as goal

pub returns : goal.returns
returns c = most_general
