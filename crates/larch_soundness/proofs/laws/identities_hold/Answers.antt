use Rattle.larch_soundness.proofs.Identities.{identity_holds}
use Rattle.larch_soundness.proofs.laws.identities_hold.Goals as goal

pub returns : goal.returns
returns c m fs l r i d = λ a g. identity_holds i a g d
