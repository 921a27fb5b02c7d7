use Rattle.larch_main_session.proofs.Derived.{derivation_shows}
use Rattle.larch_main_session.proofs.laws.what_is_derived_is_shown.Goals as goal

pub returns : goal.returns
returns c = derivation_shows
