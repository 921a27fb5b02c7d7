use Rattle.larch_derive.proofs.Growth.{known_left, known_right, known_stands, said_stands}
use Rattle.larch_derive.proofs.laws.sides_are_known.Goals as goal

pub returns : goal.returns
returns c = record { left = known_left; right = known_right; known = known_stands; said = said_stands }
