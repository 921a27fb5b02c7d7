use Rattle.larch_renaming.proofs.Renamed.{renamed_occurrences, renamed_size}
use Rattle.larch_renaming.proofs.laws.renaming_of_occurrences.Goals as goal

pub returns : goal.returns
returns c = record { occurrences = renamed_occurrences; size = renamed_size }
