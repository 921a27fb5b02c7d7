use Rattle.larch_flat_meaning.proofs.Agreement.{flat_reached_only, reached_only}
use Rattle.larch_flat_meaning.proofs.laws.reached_files_decide.Goals as goal

pub returns-clause-each : goal.returns-clause-each
returns-clause-each c = reached_only

pub returns-clause-flat : goal.returns-clause-flat
returns-clause-flat c = flat_reached_only
