use Rattle.larch_session_law.proofs.Justified.{all_derivable}
use Rattle.larch_session_law.proofs.laws.what_is_certified_is_derivable.Goals as goal

pub returns : goal.returns
returns c = all_derivable
