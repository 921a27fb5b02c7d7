use Rattle.larch_sorts_meaning.proofs.Existing.{exists_Decides}
use Rattle.larch_sorts_meaning.proofs.laws.existing_is_told.Goals as goal

pub returns : goal.returns
returns c = exists_Decides
