use Rattle.larch_prove_meaning.proofs.Redone.{redo_nothing}
use Rattle.larch_prove_meaning.proofs.laws.nothing_is_redone.Goals as goal

pub returns : goal.returns
returns c now h = redo_nothing now h
