use Rattle.larch_session_derive_meaning.proofs.Shown.{derived_verified}
use Rattle.larch_session_derive_meaning.proofs.laws.what_is_derived_is_verified.Goals as goal

pub returns : goal.returns
returns c = derived_verified
