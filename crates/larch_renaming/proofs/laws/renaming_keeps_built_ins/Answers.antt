use Rattle.larch_renaming.proofs.RenamedStatements.{built_in_renamed, zero_renamed}
use Rattle.larch_renaming.proofs.laws.renaming_keeps_built_ins.Goals as goal

pub returns : goal.returns
returns c = record { operator = built_in_renamed; statement = zero_renamed }
