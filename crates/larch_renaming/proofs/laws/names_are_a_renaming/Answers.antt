use Rattle.larch_renaming.proofs.RenamedStatements.{by_name_fits, by_name_keeps}
use Rattle.larch_renaming.proofs.laws.names_are_a_renaming.Goals as goal

pub returns : goal.returns
returns c = record { fits = by_name_fits; keeps = by_name_keeps }
