use Rattle.larch_pairs.proofs.Fitting.{application_unifier_fits, unifier_fits}
use Rattle.larch_pairs.proofs.laws.unifiers_keep_sorts.Goals as goal

pub returns-clause-one_sort : goal.returns-clause-one_sort
returns-clause-one_sort c = unifier_fits

pub returns-clause-applications : goal.returns-clause-applications
returns-clause-applications c = application_unifier_fits
