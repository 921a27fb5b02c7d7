use Rattle.larch_tables.proofs.Identities.{row_identity, offered_identity}
use Rattle.larch_tables.proofs.laws.rows_are_identities.Goals as goal

pub returns : goal.returns
returns c = record { rows = row_identity; offered = offered_identity }
