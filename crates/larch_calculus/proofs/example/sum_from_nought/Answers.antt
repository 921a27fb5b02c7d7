use Rattle.larch_calculus.proofs.Numbers.{by_induction}
use Rattle.larch_calculus.proofs.example.sum_from_nought.Goals as goal

pub returns : goal.returns
returns c = by_induction
