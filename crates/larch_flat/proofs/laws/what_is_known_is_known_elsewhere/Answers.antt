use Rattle.larch_flat.proofs.Elsewhere.{flat_elsewhere, known_elsewhere}
use Rattle.larch_flat.proofs.laws.what_is_known_is_known_elsewhere.Goals as goal

pub returns-clause-flat : goal.returns-clause-flat
returns-clause-flat c = flat_elsewhere

pub returns-clause-known : goal.returns-clause-known
returns-clause-known c = known_elsewhere
