use Rattle.std.proofs.Common.{◌≡◌, ◌++◌, drop, filter}
use Rattle.larch_sorts_signature.specs.Places.{kept_at, takes_at}
use Rattle.larch_sorts_signature.specs.declared.place.Place.{Place}
use Rattle.larch_sorts_signature.proofs.places.operators_by_place.Given as goal

-- the operators of each place that are kept, with those that are left, are all
abbrev pub invariant-loop-operator : goal.invariant-loop-operator
invariant-loop-operator l =
    (p : Place) → kept_at l.kept.entries p ++ filter (takes_at p) (drop l.operator-index l.operators)
    ≡ filter (takes_at p) l.operators
