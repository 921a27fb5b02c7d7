use Rattle.larch_term_law.proofs.Substitutions.{substituted_sort, substituted_well_sorted}
use Rattle.larch_term_law.proofs.laws.substitution_keeps_sorts.Goals as goal

pub returns : goal.returns
returns c = record { sort = substituted_sort; well_sorted = substituted_well_sorted }
