use Rattle.larch_rewrite_meaning.proofs.laws.budget_falls.Goals as goal
use Rattle.larch_rewrite_meaning.proofs.NormalForms.{normal_most}

pub returns : goal.returns
returns c rules t b = normal_most rules t b
