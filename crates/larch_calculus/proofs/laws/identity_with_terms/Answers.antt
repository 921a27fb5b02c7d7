use Rattle.larch_calculus.proofs.DerivedRules.{identity_instance}
use Rattle.larch_calculus.proofs.laws.identity_with_terms.Goals as goal

pub returns : goal.returns
returns c t s a b x y p q i = identity_instance s a b p q i
