use Rattle.std.proofs.Common.{◌≡◌, drop}
use Rattle.std.specs.List.{fold}
use Rattle.larch_sorts_signature.specs.Makers.{maker_among, maker_at, with_maker}
use Rattle.larch_sorts_signature.specs.declared.place.Place.{Place}
use Rattle.larch_sorts_signature.proofs.makers.Makers.of.Given as goal

-- what is kept at each place, with the operators that are left, is all
abbrev pub invariant-loop-operator : goal.invariant-loop-operator
invariant-loop-operator l =
    (p : Place) → fold (with_maker p) (maker_at l.kept.entries p) (drop l.operator-index l.operators)
    ≡ maker_among p l.operators
