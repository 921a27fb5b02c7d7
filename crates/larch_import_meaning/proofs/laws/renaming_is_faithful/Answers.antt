use Rattle.larch_import_meaning.proofs.Fresh.{is_faithful}
use Rattle.larch_import_meaning.proofs.laws.renaming_is_faithful.Goals as goal

pub returns : goal.returns
returns c = is_faithful
