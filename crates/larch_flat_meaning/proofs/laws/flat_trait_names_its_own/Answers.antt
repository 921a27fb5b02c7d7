use Rattle.larch_flat_meaning.proofs.Theory.{flat_discharge, flat_stated}
use Rattle.larch_flat_meaning.proofs.laws.flat_trait_names_its_own.Goals as goal

pub returns-clause-stated : goal.returns-clause-stated
returns-clause-stated c = flat_stated

pub returns-clause-discharge : goal.returns-clause-discharge
returns-clause-discharge c = flat_discharge
