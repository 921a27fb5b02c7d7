use Rattle.larch_prove_meaning.specs.Plans as defined
use Rattle.larch_prove_plans.specs.Planning.{method_of, setting_over}
use Rattle.larch_prove_plans.proofs.Defined.{is_defined}
use Rattle.larch_prove_plans.proofs.laws.plans_are_defined.Goals as goal

pub returns : goal.returns
returns c t taken goal method made e = is_defined (defined.plan (setting_over t taken) goal (method_of method)) made e
