use Rattle.larch_session_derive_meaning.proofs.Called.{none_derived}
use Rattle.larch_session_derive_meaning.proofs.laws.nothing_is_derived_of_what_is_not_proved.Goals as goal

pub returns : goal.returns
returns c = none_derived
