-- What goes on.
use Rattle.larch_prove.proofs.Begins.{opened_so}
use Rattle.larch_prove.proofs.beginning.open.Goals as goal

pub returns-in-Ok : goal.returns-in-Ok
returns-in-Ok c = opened_so c.args.duty.now _ _ c.in-Ok.ensures.begun
