use Rattle.larch_flat_meaning.proofs.Depth.{deeper, flat_deeper}
use Rattle.larch_flat_meaning.proofs.laws.deeper_tells_the_same.Goals as goal

pub returns-clause-each : goal.returns-clause-each
returns-clause-each c = deeper

pub returns-clause-flat : goal.returns-clause-flat
returns-clause-flat c = flat_deeper
