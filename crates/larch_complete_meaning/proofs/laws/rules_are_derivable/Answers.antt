use Rattle.larch_complete_meaning.proofs.Deriving.{completion_derivable}
use Rattle.larch_complete_meaning.proofs.laws.rules_are_derivable.Goals as goal

pub returns : goal.returns
returns c = completion_derivable
