use Rattle.larch_pairs_critical.proofs.Numbering.{all_numbered}
use Rattle.larch_pairs_critical.proofs.laws.variables_are_numbered.Goals as goal

pub returns : goal.returns
returns c = all_numbered
