use Rattle.larch_flat_meaning.proofs.Shrinking.{told_closure}
use Rattle.larch_flat_meaning.proofs.laws.closures_are_told.Goals as goal

pub returns : goal.returns
returns c = told_closure
