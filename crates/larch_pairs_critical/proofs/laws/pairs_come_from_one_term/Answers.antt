use Rattle.larch_pairs_critical.proofs.Overlapping.{all_overlap}
use Rattle.larch_pairs_critical.proofs.laws.pairs_come_from_one_term.Goals as goal

pub returns : goal.returns
returns c = all_overlap
