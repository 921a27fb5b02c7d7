use Rattle.larch_rewrite_law.proofs.Charging.{made_costs}
use Rattle.larch_rewrite_law.proofs.costs.made_at_a_cost.Goals as goal

pub returns : goal.returns
returns c rules t u b r h = made_costs rules t u b r h
