use Rattle.larch_pairs_critical.proofs.Replacements.{all_fit}
use Rattle.larch_pairs_critical.proofs.laws.substitutions_keep_sorts.Goals as goal

pub returns : goal.returns
returns c = all_fit
