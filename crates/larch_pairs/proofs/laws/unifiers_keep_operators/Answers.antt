use Rattle.larch_pairs.proofs.OverOperators.{unifier_over}
use Rattle.larch_pairs.proofs.laws.unifiers_keep_operators.Goals as goal

pub returns : goal.returns
returns c = unifier_over
