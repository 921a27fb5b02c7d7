use Rattle.larch_sorts_meaning.proofs.SortsRead.{statement_sorts_exist}
use Rattle.larch_sorts_meaning.proofs.laws.sorts_read_exist.Goals as goal

pub returns : goal.returns
returns c = statement_sorts_exist
