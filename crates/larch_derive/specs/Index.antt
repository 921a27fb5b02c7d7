-- An index of operators.
use Rattle.std.specs.Prelude.{◌≡◌, ℕ, List}
use Rattle.std.specs.Map.{lookup}
use Rattle.larch_term.specs.Operator.{PlainOperator}
use Rattle.larch_term.specs.OperatorKey.{same_operator}
use Rattle.larch_derive.specs.OpenBox.{place_from}

-- an index of the list: it has the place of each operator that is there, counted from 1, and no other operator
abbrev pub IsIndex : List (PlainOperator × ℕ) → List PlainOperator → Type 0
IsIndex places fs = (f : PlainOperator) → lookup (same_operator f) places ≡ place_from 1 fs f
