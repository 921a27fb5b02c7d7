use Rattle.std.proofs.Common.{◌≡◌, ◌+◌, ◌++◌, drop, map}
use Rattle.larch_calculus.specs.Observation.{places_of_sort}
use Rattle.larch_prove_plans.specs.Observations.{at_places, observation_of}
use Rattle.larch_prove_plans.proofs.observations.push_observations.Given as goal

-- the observations so far, before those of the places that are left
abbrev pub invariant-loop-index : goal.invariant-loop-index
invariant-loop-index l =
    map observation_of l.observations.items
    ++ at_places l.observer (places_of_sort l.sort (l.index + 1) (drop l.index l.observer.domain))
    ≡ map observation_of l.initial.observations.items
    ++ at_places l.observer (places_of_sort l.sort 1 l.observer.domain)
