use Rattle.larch_prove_meaning.proofs.PlanSorts.{plan_over}
use Rattle.larch_prove_meaning.proofs.laws.plans_keep_sorts.Goals as goal

pub returns : goal.returns
returns c fs setting goal method made h w m e = plan_over fs setting goal method made h w m e
