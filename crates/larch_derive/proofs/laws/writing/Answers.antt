use Rattle.larch_derive.proofs.Words.{writable}
use Rattle.larch_derive.proofs.laws.writing.Goals as goal

pub returns : goal.returns
returns c = writable
