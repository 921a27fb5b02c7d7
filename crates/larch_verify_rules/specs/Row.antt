-- Rows with and without sorts of their own.
use Rattle.std.specs.Prelude.{if◌then◌else◌, Bool, false, not, Option, Some, None, option_and_then}
use Rattle.larch_term.specs.declared.statement.Statement.{Statement}
use Rattle.larch_tables.specs.Row.{PlainRow}

-- the row's equation, if it has a sort of its own exactly where that is wanted
abbrev pub given_as : Bool → PlainRow → Option Statement
given_as sorted row =
    if row.sorted then (if sorted then Some row.given else None) else (if sorted then None else Some row.given)

-- likewise where there is a row
abbrev pub row_at : Bool → Option PlainRow → Option Statement
row_at sorted o = option_and_then (given_as sorted) o

-- whether there is a row that has a sort of its own exactly where that is wanted
abbrev pub has_mark : Bool → Option PlainRow → Bool
has_mark sorted None = false
has_mark sorted (Some row) = if row.sorted then sorted else not sorted
