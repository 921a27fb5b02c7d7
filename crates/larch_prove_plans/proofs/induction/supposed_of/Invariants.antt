use Rattle.std.proofs.Common.{◌≡◌, ◌++◌, drop, map}
use Rattle.larch_prove_plans.specs.Planning.{equate}
use Rattle.larch_prove_meaning.specs.Plans.{supposed_of}
use Rattle.larch_prove_plans.proofs.induction.supposed_of.Given as goal

-- the hypotheses so far, before those of the constants that are left
abbrev pub invariant-loop-operator : goal.invariant-loop-operator
invariant-loop-operator l =
    l.hypotheses ++ map equate (supposed_of l.variable l.goal (drop l.operator-index l.constants))
    ≡ map equate (supposed_of l.variable l.goal l.constants)
