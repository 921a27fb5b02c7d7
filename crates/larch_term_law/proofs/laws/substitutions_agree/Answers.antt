use Rattle.larch_term_law.proofs.Agreement.{agreement}
use Rattle.larch_term_law.proofs.laws.substitutions_agree.Goals as goal

pub returns : goal.returns
returns c = agreement
