use Rattle.larch_session_law.proofs.Claimed.{are_claims}
use Rattle.larch_session_law.proofs.laws.claims_can_be_replayed.Goals as goal

pub returns : goal.returns
returns c = are_claims
