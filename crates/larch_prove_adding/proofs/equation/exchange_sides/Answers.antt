use Rattle.larch_derive.proofs.Growth.{extends_same}
use Rattle.larch_prove_adding.proofs.equation.exchange_sides.Goals as goal

pub returns-in_err-line-clause-extends : goal.returns-in_err-line-clause-extends
returns-in_err-line-clause-extends c = extends_same _ _ c.in_err-line.ensures.err
