use Rattle.larch_main_session.proofs.Shapes.{session_ends}
use Rattle.larch_main_session.proofs.laws.every_session_ends.Goals as goal

pub returns : goal.returns
returns c = session_ends
