-- Entries of a table as marked statements.
use Rattle.std.specs.Prelude.{Bool, List, map}
use Rattle.larch_term.specs.declared.statement.Statement.{Statement}
use Rattle.larch_flat_meaning.specs.Gathered.{Marked}
use Rattle.larch_flat_statements.specs.declared.key.StatementKey.{StatementKey}

-- the marked statement of an entry
abbrev pub marked_of : StatementKey × Bool → Marked
marked_of e = record { statement = e.0.statement; assumed = e.1 }

-- the marked statements of entries
abbrev pub marked_in : List (StatementKey × Bool) → List Marked
marked_in es = map marked_of es

-- the statements of keys
abbrev pub stated_in : List StatementKey → List Statement
stated_in ks = map (λ k. k.statement) ks
