use Rattle.larch_renaming.proofs.Renamed.{renamed_sort, renamed_well_sorted}
use Rattle.larch_renaming.proofs.laws.renaming_keeps_sorts.Goals as goal

pub returns : goal.returns
returns c = record { sort = renamed_sort; well_sorted = renamed_well_sorted }
