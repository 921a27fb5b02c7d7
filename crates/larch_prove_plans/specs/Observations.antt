-- Observations as the code has them.
use Rattle.std.specs.Prelude.{ℕ, ◌+◌, List, map}
use Rattle.larch_term.specs.Operator.{PlainOperator}
use Rattle.larch_calculus.specs.Observation.{Observation}
use Rattle.larch_prove_plans.specs.declared.observations.Observed.{Observed}

-- the observation, its place counted from 1
abbrev pub observation_of : Observed → Observation
observation_of w = record { observer = w.observer; place = w.index + 1 }

-- an observer with each of these places
abbrev pub at_places : PlainOperator → List ℕ → List Observation
at_places o ks = map (λ k. record { observer = o; place = k }) ks
