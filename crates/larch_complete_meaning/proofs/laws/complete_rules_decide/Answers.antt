use Rattle.larch_complete_meaning.proofs.Joining.{complete_decides}
use Rattle.larch_complete_meaning.proofs.laws.complete_rules_decide.Goals as goal

pub returns : goal.returns
returns c = complete_decides
