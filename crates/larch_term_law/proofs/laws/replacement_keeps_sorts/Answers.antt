use Rattle.larch_term_law.proofs.Places.{at_well_sorted, put_sort, put_well_sorted}
use Rattle.larch_term_law.proofs.laws.replacement_keeps_sorts.Goals as goal

pub returns : goal.returns
returns c = record { subterm = at_well_sorted; sort = put_sort; well_sorted = put_well_sorted }
