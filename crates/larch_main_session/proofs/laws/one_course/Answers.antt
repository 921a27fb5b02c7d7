use Rattle.larch_main_session.proofs.Once.{once}
use Rattle.larch_main_session.proofs.laws.one_course.Goals as goal

pub returns : goal.returns
returns c ended state input first second here there last final one other = once one other
