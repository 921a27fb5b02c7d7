-- Rows: what one says, as the code holds it.
use Rattle.std.specs.Prelude.{Bool, List, [], ◌∷◌}
use Rattle.larch_calculus.specs.TermStatementStatement.{Statement}
use Rattle.larch_tables.specs.declared.row.Row.{Row}
use Rattle.larch_tables.specs.declared.row.Entry.{Entry}

-- a row at a sort: whether it is offered at every sort, its equation, and the equations that follow from that
pub record PlainRow : Type 0 where
  pub sorted : Bool
  pub given : Statement
  pub consequences : List Statement

-- the row of an entry
abbrev pub row_of_entry : Entry → Row
row_of_entry entry = record {
  given = entry.given;
  consequences = entry.first ∷ entry.second ∷ [];
  count = entry.count;
  sorted = entry.sorted;
}
