use Rattle.larch_flat_meaning.proofs.Sizes.{flat_bounded, rest_bounded}
use Rattle.larch_flat_meaning.proofs.laws.sizes_are_bounded.Goals as goal

pub returns-clause-reference : goal.returns-clause-reference
returns-clause-reference c = flat_bounded

pub returns-clause-rest : goal.returns-clause-rest
returns-clause-rest c = rest_bounded
