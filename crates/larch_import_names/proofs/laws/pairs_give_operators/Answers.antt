use Rattle.larch_import_names.proofs.Agreement.{pair_given}
use Rattle.larch_import_names.proofs.laws.pairs_give_operators.Goals as goal

pub returns : goal.returns
returns c = pair_given
