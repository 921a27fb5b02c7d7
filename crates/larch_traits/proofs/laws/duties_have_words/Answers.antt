use Rattle.larch_traits.proofs.Worded.{claims_worded, duties_worded}
use Rattle.larch_traits.proofs.laws.duties_have_words.Goals as goal

pub returns-clause-duties : goal.returns-clause-duties
returns-clause-duties c = duties_worded

pub returns-clause-claims : goal.returns-clause-claims
returns-clause-claims c = claims_worded
