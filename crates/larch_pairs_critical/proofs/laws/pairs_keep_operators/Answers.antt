use Rattle.larch_pairs_critical.proofs.OverOperators.{pairs_over}
use Rattle.larch_pairs_critical.proofs.laws.pairs_keep_operators.Goals as goal

pub returns : goal.returns
returns c = pairs_over
