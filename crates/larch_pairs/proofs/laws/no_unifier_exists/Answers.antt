use Rattle.larch_pairs.proofs.Solving.{none_unifies}
use Rattle.larch_pairs.proofs.laws.no_unifier_exists.Goals as goal

pub returns : goal.returns
returns c = none_unifies
