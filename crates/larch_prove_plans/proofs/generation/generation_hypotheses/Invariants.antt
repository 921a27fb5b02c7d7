use Rattle.std.proofs.Common.{◌≡◌, take}
use Rattle.larch_calculus.specs.Generation.{generation_hypotheses}
use Rattle.larch_prove_plans.proofs.generation.generation_hypotheses.Given as goal

-- the hypotheses so far
abbrev pub invariant-loop-operator : goal.invariant-loop-operator
invariant-loop-operator l =
    l.hypotheses ≡ generation_hypotheses l.predicate l.sort (take l.operator-index l.operators)
