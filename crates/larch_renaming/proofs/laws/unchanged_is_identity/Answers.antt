use Rattle.larch_renaming.proofs.Renamed.{renamed_unchanged}
use Rattle.larch_renaming.proofs.RenamedStatements.{statement_unchanged, theory_unchanged}
use Rattle.larch_renaming.proofs.laws.unchanged_is_identity.Goals as goal

pub returns : goal.returns
returns c = record { term = renamed_unchanged; statement = statement_unchanged; theory = theory_unchanged }
