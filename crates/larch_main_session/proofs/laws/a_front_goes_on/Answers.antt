use Rattle.larch_main_session.proofs.Texts.{front_goes_on}
use Rattle.larch_main_session.proofs.laws.a_front_goes_on.Goals as goal

pub returns : goal.returns
returns c replies front output begun texts = front_goes_on begun texts
