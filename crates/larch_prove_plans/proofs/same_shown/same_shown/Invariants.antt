use Rattle.std.proofs.Common.{◌≡◌, map, take}
use Rattle.larch_prove_plans.specs.ClauseGoals.{same_shown}
use Rattle.larch_prove_plans.specs.Observations.{observation_of}
use Rattle.larch_prove_plans.proofs.same_shown.same_shown.Given as goal

-- the equations so far
abbrev pub invariant-loop-observation : goal.invariant-loop-observation
invariant-loop-observation l =
    l.equations ≡ map (same_shown l.left l.right) (map observation_of (take l.observation-index l.observations))
