use Rattle.larch_rewrite_meaning.proofs.laws.normal_goes_on.Goals as goal
use Rattle.larch_rewrite_meaning.proofs.NormalForms.{normal_unfold}

pub returns : goal.returns
returns c rules t b = normal_unfold rules t b
