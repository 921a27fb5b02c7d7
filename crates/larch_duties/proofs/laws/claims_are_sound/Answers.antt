use Rattle.larch_duties.proofs.Worded.{claims_plain, claims_sound}
use Rattle.larch_duties.proofs.laws.claims_are_sound.Goals as goal

pub returns-clause-sound : goal.returns-clause-sound
returns-clause-sound c = claims_sound

pub returns-clause-plain : goal.returns-clause-plain
returns-clause-plain c = claims_plain
