use Rattle.std.proofs.Common.{◌≡◌, map, take}
use Rattle.larch_prove_plans.specs.ClauseGoals.{as_term}
use Rattle.larch_prove_plans.proofs.generation.made_of.Given as goal

-- the arguments so far
abbrev pub invariant-loop-variable : goal.invariant-loop-variable
invariant-loop-variable l = l.arguments.items ≡ map as_term (take l.variable-index l.variables)
