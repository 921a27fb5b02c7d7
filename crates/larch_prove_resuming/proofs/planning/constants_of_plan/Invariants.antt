use Rattle.std.specs.List.{flat_map}
use Rattle.std.proofs.Common.{◌≡◌, ◌++◌, take}
use Rattle.larch_prove_resuming.proofs.planning.constants_of_plan.Given as goal

-- the shared constants, and those of the subgoals so far
abbrev pub invariant-loop-subgoal : goal.invariant-loop-subgoal
invariant-loop-subgoal l =
    l.constants ≡ l.plan.constants ++ flat_map (λ g. g.constants) (take l.subgoal-index l.subgoal-items)
