-- Statements of a builder's theory.
use Rattle.std.specs.Prelude.{◌≡◌, ℕ, List, ◌∷◌, All, Some}
use Rattle.std.specs.List.{slice_get}
use Rattle.larch_derive.specs.Builder.{theory_in}
use Rattle.larch_derive.specs.Predicates.{HasNoBadLine}
use Rattle.larch_derive.specs.declared.builder.Builder.{Builder}
use Rattle.larch_term.specs.Statement.{IsStatementOver, statement_zero}
use Rattle.larch_term.specs.declared.statement.Statement.{Statement}

-- no line of the builder is bad, and the statement of its theory with a number, counted from 1, is this one, which is
-- well sorted
pub record IsStated (b : Builder) (n : ℕ) (s : Statement) : Type 0 where
  pub stands : HasNoBadLine b
  pub is : slice_get (statement_zero ∷ (theory_in b).statements) n ≡ Some s
  pub sorted : IsStatementOver (theory_in b).operators s

-- the statements of its theory are these
pub record AreStated (b : Builder) (ss : List Statement) : Type 0 where
  pub stands : HasNoBadLine b
  pub are : (theory_in b).statements ≡ ss
  pub sorted : All (IsStatementOver (theory_in b).operators) ss
