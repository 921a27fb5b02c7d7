use Rattle.std.proofs.Common.{◌≡◌, ◌++◌, map}
use Rattle.larch_prove_plans.specs.Planning.{alone}
use Rattle.larch_prove_plans.proofs.conjunction.alone.Given as goal

-- the subgoals so far
abbrev pub invariant-loop-goal : goal.invariant-loop-goal
invariant-loop-goal l =
    (l.subgoals ≡ map alone l.yielded) × (l.fn.goals.items ≡ l.yielded ++ l.goal-iterator.rest.items)
