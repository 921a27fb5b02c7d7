use Rattle.std.proofs.Common.{◌≡◌, ◌++◌, drop}
use Rattle.std.specs.List.{flat_map}
use Rattle.larch_duties_meaning.specs.Listing.{listed_operator}
use Rattle.larch_duties.proofs.printing.write_operators.Given as goal

-- what is written and what is left to write are all
abbrev pub invariant-loop-operator : goal.invariant-loop-operator
invariant-loop-operator l =
    l.text ++ flat_map listed_operator (drop l.operator-index l.operators)
    ≡ l.initial.text ++ flat_map listed_operator l.operators
