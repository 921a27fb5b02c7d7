use Rattle.std.proofs.Common.{◌≡◌, ◌++◌, drop, map}
use Rattle.larch_calculus.specs.Observation.{observations_of}
use Rattle.larch_prove_plans.specs.Observations.{observation_of}
use Rattle.larch_prove_plans.proofs.observations.observations_of.Given as goal

-- the observations so far, before those of the observers that are left
abbrev pub invariant-loop-observer : goal.invariant-loop-observer
invariant-loop-observer l =
    map observation_of l.observations.items ++ observations_of l.sort (drop l.observer-index l.observers)
    ≡ observations_of l.sort l.observers
