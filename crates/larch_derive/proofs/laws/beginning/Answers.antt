use Rattle.larch_derive.proofs.Start.{empty_stands, known_own}
use Rattle.larch_derive.proofs.laws.beginning.Goals as goal

pub returns : goal.returns
returns c = record { stands = empty_stands; known = known_own }
