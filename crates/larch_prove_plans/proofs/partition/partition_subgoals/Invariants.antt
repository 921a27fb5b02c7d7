use Rattle.std.proofs.Common.{◌≡◌, ◌++◌, drop, map}
use Rattle.larch_prove_plans.specs.Observations.{observation_of}
use Rattle.larch_prove_plans.specs.Planning.{subgoal_of}
use Rattle.larch_prove_meaning.specs.Plans.{partition_subgoals}
use Rattle.larch_prove_plans.proofs.partition.partition_subgoals.Given as goal

-- the subgoals so far, before those of the observations that are left
abbrev pub invariant-loop-observation : goal.invariant-loop-observation
invariant-loop-observation l =
    l.subgoals ++ map subgoal_of
    (partition_subgoals l.taken.items l.left l.right (map observation_of (drop l.observation-index l.observations)))
    ≡ map subgoal_of (partition_subgoals l.fn.names.items l.left l.right (map observation_of l.observations))
