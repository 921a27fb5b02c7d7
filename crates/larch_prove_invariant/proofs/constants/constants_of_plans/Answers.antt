use Rattle.larch_prove_invariant.proofs.Own.{plan_others, plan_parts_new}
use Rattle.larch_prove_invariant.proofs.Planned.{made_worded, planned_for}
use Rattle.larch_prove_invariant.proofs.constants.constants_of_plans.Goals as goal

pub returns : goal.returns
returns c = record { new = plan_parts_new; others = plan_others; words = made_worded; planned = planned_for }
