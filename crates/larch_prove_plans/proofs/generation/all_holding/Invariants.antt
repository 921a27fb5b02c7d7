use Rattle.std.proofs.Common.{◌≡◌, drop}
use Rattle.std.specs.Prelude.{None}
use Rattle.larch_calculus.specs.Generation.{holding}
use Rattle.larch_prove_plans.specs.ClauseGoals.{with_conjuncts}
use Rattle.larch_prove_plans.proofs.generation.all_holding.Given as goal

-- the premise so far, with those of the variables that are left
abbrev pub invariant-loop-variable : goal.invariant-loop-variable
invariant-loop-variable l =
    with_conjuncts l.premise (holding l.predicate l.sort (drop l.variable-index l.variables))
    ≡ with_conjuncts None (holding l.predicate l.sort l.variables)
