use Rattle.larch_flat_sources.proofs.Tables.{among, names_length}
use Rattle.larch_flat_sources.proofs.laws.sources_are_among.Goals as goal

pub returns-clause-among : goal.returns-clause-among
returns-clause-among c = among

pub returns-clause-length : goal.returns-clause-length
returns-clause-length c = names_length
