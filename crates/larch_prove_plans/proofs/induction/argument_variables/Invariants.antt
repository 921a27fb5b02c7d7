use Rattle.std.proofs.Common.{◌≡◌, take}
use Rattle.larch_prove_meaning.specs.Plans.{argument_variables}
use Rattle.larch_prove_plans.proofs.induction.argument_variables.Given as goal

-- the variables so far
abbrev pub invariant-loop-sort : goal.invariant-loop-sort
invariant-loop-sort l = l.variables ≡ argument_variables l.variable (take l.sort-index l.sorts)
