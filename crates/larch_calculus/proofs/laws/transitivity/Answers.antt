use Rattle.larch_calculus.proofs.DerivedRules.{transitive}
use Rattle.larch_calculus.proofs.laws.transitivity.Goals as goal

pub returns : goal.returns
returns c t x y z d e = transitive d e
