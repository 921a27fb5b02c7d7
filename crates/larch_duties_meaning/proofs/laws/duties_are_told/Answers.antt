use Rattle.larch_duties_meaning.proofs.Told.{duties_told}
use Rattle.larch_duties_meaning.proofs.laws.duties_are_told.Goals as goal

pub returns : goal.returns
returns c = duties_told
