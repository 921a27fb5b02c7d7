use Rattle.larch_calculus.proofs.Identities.{identity_over}
use Rattle.larch_calculus.proofs.laws.identity_is_well_sorted.Goals as goal

pub returns : goal.returns
returns c fs a b i = identity_over fs i
