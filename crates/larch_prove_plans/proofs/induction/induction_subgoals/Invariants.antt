use Rattle.std.proofs.Common.{◌≡◌, ◌++◌, drop, map}
use Rattle.larch_prove_plans.specs.Planning.{subgoal_of}
use Rattle.larch_prove_meaning.specs.Plans.{induction_subgoals}
use Rattle.larch_prove_plans.proofs.induction.induction_subgoals.Given as goal

-- the subgoals so far, before those of the generators that are left
abbrev pub invariant-loop-generator : goal.invariant-loop-generator
invariant-loop-generator l =
    l.subgoals ++ map subgoal_of
    (induction_subgoals l.taken.items l.variable l.goal (drop l.generator-index l.generators))
    ≡ map subgoal_of (induction_subgoals l.fn.names.items l.variable l.goal l.generators)
