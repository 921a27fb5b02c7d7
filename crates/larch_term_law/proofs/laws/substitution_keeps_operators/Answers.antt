use Rattle.larch_term_law.proofs.Substitutions.{substituted_over}
use Rattle.larch_term_law.proofs.laws.substitution_keeps_operators.Goals as goal

pub returns : goal.returns
returns c = substituted_over
