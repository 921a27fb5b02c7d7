use Rattle.larch_calculus.specs.Derivable.{weaken}
use Rattle.larch_calculus.proofs.DerivedRules.{prefix_included}
use Rattle.larch_calculus.proofs.laws.weakening.Goals as goal

pub returns : goal.returns
returns c =
    record { included = λ t u s w i d. weaken w i d; prefix = λ t u s w p d. weaken w (prefix_included t u p) d }
