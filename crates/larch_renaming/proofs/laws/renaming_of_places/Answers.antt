use Rattle.larch_renaming.proofs.Renamed.{at_renamed, renamed_put}
use Rattle.larch_renaming.proofs.laws.renaming_of_places.Goals as goal

pub returns : goal.returns
returns c = record { at = at_renamed; put = renamed_put }
