use Rattle.std.proofs.Common.{◌≡◌, ◌++◌}
use Rattle.larch_sorts_signature.specs.Places.{kept_at}
use Rattle.larch_sorts_signature.specs.declared.place.Place.{Place}
use Rattle.larch_sorts_signature.proofs.Enough.{kept_first}
use Rattle.larch_sorts_signature.proofs.places.keep.Given as goal

-- the operator stands behind those at the places of its first sorts
abbrev pub invariant-loop-position : goal.invariant-loop-position
invariant-loop-position l =
    (p : Place) → kept_at l.kept.entries p ≡ kept_at l.initial.kept.entries p ++ kept_first l.position l.operator p
