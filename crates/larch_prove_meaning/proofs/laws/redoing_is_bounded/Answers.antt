use Rattle.larch_prove_meaning.proofs.Redone.{redo_most}
use Rattle.larch_prove_meaning.proofs.laws.redoing_is_bounded.Goals as goal

pub returns : goal.returns
returns c before now = redo_most before now
