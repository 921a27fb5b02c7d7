use Rattle.larch_pairs_critical.proofs.Replacements.{all_over}
use Rattle.larch_pairs_critical.proofs.laws.substitutions_keep_operators.Goals as goal

pub returns : goal.returns
returns c = all_over
