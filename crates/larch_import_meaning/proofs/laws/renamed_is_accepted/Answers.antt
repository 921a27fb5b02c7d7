use Rattle.larch_import_meaning.proofs.Accepted.{renamed_accepted}
use Rattle.larch_import_meaning.proofs.laws.renamed_is_accepted.Goals as goal

pub returns : goal.returns
returns c = renamed_accepted
