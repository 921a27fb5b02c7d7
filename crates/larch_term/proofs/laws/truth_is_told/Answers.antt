use Rattle.larch_term.proofs.TruthTest.{is_truth_Decides}
use Rattle.larch_term.proofs.laws.truth_is_told.Goals as goal

pub returns : goal.returns
returns c = is_truth_Decides
