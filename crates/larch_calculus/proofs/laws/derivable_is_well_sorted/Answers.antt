use Rattle.larch_calculus.proofs.WellSorted.{well_sorted}
use Rattle.larch_calculus.proofs.laws.derivable_is_well_sorted.Goals as goal

pub returns : goal.returns
returns c t s d = well_sorted d
