use Rattle.larch_derive.proofs.Growth.{grows_same, grows_trans, extends_grows, grows_alike}
use Rattle.larch_derive.proofs.laws.growing.Goals as goal

pub returns : goal.returns
returns c =
    record { same = grows_same; further = grows_trans; extended = extends_grows; alike = grows_alike }
