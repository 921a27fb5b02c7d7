use Rattle.larch_main_session.proofs.Derived.{none_is_said}
use Rattle.larch_main_session.proofs.laws.nothing_is_derived_of_what_is_not_proved.Goals as goal

pub returns : goal.returns
returns c = none_is_said
