use Rattle.larch_duties_meaning.proofs.Claims.{all_are}
use Rattle.larch_duties_meaning.proofs.laws.claims_are_duties.Goals as goal

pub returns : goal.returns
returns c = all_are
