use Rattle.larch_derive.proofs.Growth.{extends_same, extends_trans}
use Rattle.larch_derive.proofs.laws.extending.Goals as goal

pub returns : goal.returns
returns c = record { same = extends_same; further = extends_trans }
