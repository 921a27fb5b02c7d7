use Rattle.larch_flat_meaning.proofs.Unfolding.{unfolds}
use Rattle.larch_flat_meaning.proofs.laws.flat_unfolds.Goals as goal

pub returns : goal.returns
returns c = unfolds
