-- The operators that are found by the sorts of one argument.
use Rattle.std.specs.List.{flat_map}
use Rattle.std.specs.Prelude.{List, ℕ}
use Rattle.larch_term.specs.Operator.{PlainOperator}
use Rattle.larch_sorts_signature.specs.Places.{kept_at}
use Rattle.larch_sorts_signature.specs.declared.place.Place.{Place}

-- the operators kept for so many arguments, and one of these sorts at a position
abbrev pub found_by : List (Place × List PlainOperator) → ℕ → ℕ → List (List ℕ) → List PlainOperator
found_by entries arity position ss =
    flat_map (λ s. kept_at entries (record { arity = arity; position = position; sort = s })) ss
