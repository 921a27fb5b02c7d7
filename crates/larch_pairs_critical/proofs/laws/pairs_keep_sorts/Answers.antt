use Rattle.larch_pairs_critical.proofs.Sorting.{all_sorted}
use Rattle.larch_pairs_critical.proofs.laws.pairs_keep_sorts.Goals as goal

pub returns : goal.returns
returns c = all_sorted
