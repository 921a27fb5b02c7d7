use Rattle.larch_derive.proofs.Accepting.{accepted}
use Rattle.larch_derive.proofs.laws.accepting.Goals as goal

pub returns : goal.returns
returns c = accepted
