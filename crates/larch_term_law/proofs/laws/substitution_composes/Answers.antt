use Rattle.larch_term_law.proofs.Substitutions.{substituted_composed}
use Rattle.larch_term_law.proofs.laws.substitution_composes.Goals as goal

pub returns : goal.returns
returns c = substituted_composed
