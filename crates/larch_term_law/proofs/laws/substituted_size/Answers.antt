use Rattle.larch_term_law.proofs.Substitutions.{nodes_substituted}
use Rattle.larch_term_law.proofs.laws.substituted_size.Goals as goal

pub returns : goal.returns
returns c = nodes_substituted
