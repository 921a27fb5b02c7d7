use Rattle.larch_models_answer.proofs.Failing.{failing_underivable, model_failing}
use Rattle.larch_models_answer.proofs.laws.failing_claims_fail.Goals as goal

pub returns-clause-fails : goal.returns-clause-fails
returns-clause-fails c t assumed implied text label = model_failing t assumed implied label text

pub returns-clause-underivable : goal.returns-clause-underivable
returns-clause-underivable c t assumed implied label = failing_underivable t assumed implied label
