use Rattle.std.proofs.Common.{◌≡◌, drop}
use Rattle.std.specs.List.{fold}
use Rattle.larch_sorts_signature.specs.Makers.{maker_among, with_maker}
use Rattle.larch_sorts_signature.proofs.makers.maker_among.Given as goal

-- what was found so far, with the operators that are left, is all
abbrev pub invariant-loop-operator : goal.invariant-loop-operator
invariant-loop-operator l =
    fold (with_maker l.place) l.found (drop l.operator-index l.operators) ≡ maker_among l.place l.operators
