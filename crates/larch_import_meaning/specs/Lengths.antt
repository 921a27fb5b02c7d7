-- How long the sorts of a theory and of a renaming are.
use Rattle.std.specs.Prelude.{ℕ, max, List, fold, length}
use Rattle.larch_term.specs.BuiltIn.{bool_sort}
use Rattle.larch_term.specs.Operator.{PlainOperator}
use Rattle.larch_term.specs.Tree.{Tree, Forest, var, app, none, more}
use Rattle.larch_term.specs.declared.statement.Statement.{Statement}
use Rattle.larch_term.specs.declared.statement.Statement.TheVariants.{Equation, Generated, Partitioned}
use Rattle.larch_term.specs.declared.statement.Theory.{Theory}
use Rattle.larch_import_names.specs.declared.pairs.Renaming.{Renaming}
use Rattle.larch_import_names.specs.declared.pairs.SortPair.{SortPair}

-- the greater of a number and the length of a sort
abbrev pub with_sort : ℕ → List ℕ → ℕ
with_sort n s = max n (length s)

-- the greatest of a number and the lengths of an operator's sorts
abbrev pub with_operator : ℕ → PlainOperator → ℕ
with_operator n f = with_sort (fold with_sort n f.domain) f.range

abbrev mutual
  -- the greatest of a number and the lengths of the sorts in a term
  pub with_term : ℕ → Tree → ℕ
  with_term n (var x s) = with_sort n s
  with_term n (app f ts) = with_terms (with_operator n f) ts

  pub with_terms : ℕ → Forest → ℕ
  with_terms n none = n
  with_terms n (more t ts) = with_terms (with_term n t) ts

-- the greatest of a number and the lengths of the sorts in a statement
abbrev pub with_statement : ℕ → Statement → ℕ
with_statement n (Equation left right) = with_term (with_term n left) right
with_statement n (Generated s fs) = fold with_operator (with_sort n s) fs
with_statement n (Partitioned s fs) = fold with_operator (with_sort n s) fs

-- the greatest of a number and the lengths of a theory's sorts
abbrev pub with_theory : ℕ → Theory → ℕ
with_theory n t = fold with_statement (fold with_operator n t.operators) t.statements

-- the greater of a number and the length of the new sort of a pair
abbrev pub with_pair : ℕ → SortPair → ℕ
with_pair n p = with_sort n p.new

-- the greatest of the lengths of the new sorts of a renaming, of the sorts of a theory, and of Bool
abbrev pub longest : Renaming → Theory → ℕ
longest by t = with_theory (fold with_pair (length bool_sort) by.sorts) t
