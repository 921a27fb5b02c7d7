use Rattle.larch_calculus.proofs.DerivedRules.{all_equal}
use Rattle.larch_calculus.proofs.laws.contradiction.Goals as goal

pub returns : goal.returns
returns c t a b d w = all_equal d w
