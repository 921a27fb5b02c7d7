use Rattle.larch_main_session.proofs.Derived.{other_text}
use Rattle.larch_main_session.proofs.laws.one_text.Goals as goal

pub returns : goal.returns
returns c = other_text
