-- How a row is offered.
use Rattle.std.specs.Prelude.{ℕ, ◌||◌, Bool, if◌then◌else◌, List, bytes_eq, Option, Some, None, option_and_then}
use Rattle.larch_calculus.specs.BaseByNumber.{numbered}
use Rattle.larch_calculus.specs.TermBuiltIn.{bool_sort}
use Rattle.larch_calculus.specs.TermStatementStatement.{Statement}
use Rattle.larch_calculus.specs.TermStatementStatement.TheVariants.{Equation, Generated, Partitioned}
use Rattle.larch_calculus.specs.Identity.{IsIdentity}
use Rattle.larch_tables.specs.Row.{PlainRow}
use Rattle.larch_tables.specs.Tables.{built_in_rows}

-- every sort, or Bool alone
abbrev pub is_offered : List ℕ → PlainRow → Bool
is_offered s row = row.sorted || bytes_eq s bool_sort

-- the equation of the built-in row with a number at a sort, where there is such a row and it is offered there
abbrev pub offered_row : ℕ → List ℕ → Option Statement
offered_row n s =
    option_and_then (λ row. if is_offered s row then Some row.given else None) (numbered (built_in_rows s) n)

-- the statement is an identity
abbrev pub IsIdentityStatement : Statement → Type 0
IsIdentityStatement (Equation l r) = IsIdentity l r
IsIdentityStatement (Generated s fs) = ⊥
IsIdentityStatement (Partitioned s fs) = ⊥
