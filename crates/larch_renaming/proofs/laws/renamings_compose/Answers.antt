use Rattle.larch_renaming.proofs.Renamed.{renamed_after}
use Rattle.larch_renaming.proofs.RenamedStatements.{statement_after, theory_after}
use Rattle.larch_renaming.proofs.laws.renamings_compose.Goals as goal

pub returns : goal.returns
returns c = record { term = renamed_after; statement = statement_after; theory = theory_after }
