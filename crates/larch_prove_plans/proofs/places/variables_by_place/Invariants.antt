use Rattle.std.proofs.Common.{◌≡◌, ◌+◌, ◌++◌, drop}
use Rattle.larch_calculus.specs.Generation.{variables_from}
use Rattle.larch_prove_plans.proofs.places.variables_by_place.Given as goal

-- the variables so far, before those of the places that are left
abbrev pub invariant-loop-index : goal.invariant-loop-index
invariant-loop-index l =
    l.variables ++ variables_from (l.index + 1) (drop l.index l.sorts) ≡ variables_from 1 l.sorts
