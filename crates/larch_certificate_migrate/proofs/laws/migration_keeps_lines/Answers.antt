use Rattle.larch_certificate_migrate.proofs.Again.{migrated_again, read_again}
use Rattle.larch_certificate_migrate.proofs.laws.migration_keeps_lines.Goals as goal

pub returns-clause-read : goal.returns-clause-read
returns-clause-read c = read_again

pub returns-clause-again : goal.returns-clause-again
returns-clause-again c = migrated_again
