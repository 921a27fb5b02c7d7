use Rattle.larch_duties.proofs.Elsewhere.{claims_elsewhere, duties_elsewhere}
use Rattle.larch_duties.proofs.laws.what_is_reached_decides_claims.Goals as goal

pub returns-clause-duties : goal.returns-clause-duties
returns-clause-duties c = duties_elsewhere

pub returns-clause-claims : goal.returns-clause-claims
returns-clause-claims c = claims_elsewhere
