use Rattle.larch_calculus.proofs.Inductions.{inducted}
use Rattle.larch_calculus.proofs.laws.induction.Goals as goal

pub returns : goal.returns
returns c = inducted
