use Rattle.larch_duties_meaning.proofs.Sound.{duties_sound}
use Rattle.larch_duties_meaning.proofs.laws.duties_are_sound.Goals as goal

pub returns : goal.returns
returns c = duties_sound
