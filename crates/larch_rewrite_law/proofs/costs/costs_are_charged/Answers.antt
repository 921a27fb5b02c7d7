use Rattle.larch_rewrite_law.proofs.Charging.{cost_made, cost_used_up}
use Rattle.larch_rewrite_law.proofs.costs.costs_are_charged.Goals as goal

pub returns-clause-made : goal.returns-clause-made
returns-clause-made c rules t u k b h e = cost_made rules t u k b h e

pub returns-clause-used_up : goal.returns-clause-used_up
returns-clause-used_up c rules t u k b h e = cost_used_up rules t u k b h e
