-- What the operators of one name make of the arguments in tables.
use Rattle.std.specs.Prelude.{Contains, List, None, [], ℕ, ◌≡◌}
use Rattle.larch_term.specs.Operator.{PlainOperator}
use Rattle.larch_sorts_signature.specs.Operators.{arguments_at, operators_at}
use Rattle.larch_sorts_signature.specs.Table.{Entries, reading_at}

-- a table tells what operators make of no arguments
abbrev pub IsOfConstants : Entries → List PlainOperator → Type 0
IsOfConstants es fs = (s : List ℕ) → reading_at es s ≡ operators_at [] fs s

-- these are operators among others, and at least those that have arguments in tables
abbrev pub AreEnough : List Entries → List PlainOperator → List PlainOperator → Type 0
AreEnough tables fs gs =
    ((f : PlainOperator) → Contains gs f → Contains fs f)
    × ((f : PlainOperator) → Contains fs f → ((arguments_at tables f.domain ≡ None) → ⊥) → Contains gs f)

-- a table tells what operators make of the arguments in tables, by those of them that have arguments there
abbrev pub IsMade : Entries → List Entries → List PlainOperator → Type 0
IsMade es tables fs =
    (gs : List PlainOperator) × AreEnough tables fs gs × ((s : List ℕ) → reading_at es s ≡ operators_at tables gs s)
