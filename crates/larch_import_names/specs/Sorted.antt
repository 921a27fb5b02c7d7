-- What holds of all sorts in terms and statements.
use Rattle.std.specs.Prelude.{ℕ, List, All}
use Rattle.larch_term.specs.Operator.{PlainOperator}
use Rattle.larch_term.specs.Tree.{Tree, Forest, var, app, none, more}
use Rattle.larch_term.specs.declared.statement.Statement.{Statement}
use Rattle.larch_term.specs.declared.statement.Statement.TheVariants.{Equation, Generated, Partitioned}
use Rattle.larch_term.specs.declared.statement.Theory.{Theory}
use Rattle.larch_import_names.specs.Names.{IsNamed}
use Rattle.larch_import_names.specs.declared.pairs.Renaming.{Renaming}

-- it holds of the sorts of an operator
abbrev pub OfOperator : (List ℕ → Type 0) → PlainOperator → Type 0
OfOperator P f = All P f.domain × P f.range

abbrev mutual
  -- it holds of the sorts of all variables and operators in a term
  pub OfTerm : (List ℕ → Type 0) → Tree → Type 0
  OfTerm P (var n s) = P s
  OfTerm P (app f ts) = OfOperator P f × OfTerms P ts

  pub OfTerms : (List ℕ → Type 0) → Forest → Type 0
  OfTerms P none = Unit {0}
  OfTerms P (more t ts) = OfTerm P t × OfTerms P ts

-- it holds of all sorts in a statement
abbrev pub OfStatement : (List ℕ → Type 0) → Statement → Type 0
OfStatement P (Equation left right) = OfTerm P left × OfTerm P right
OfStatement P (Generated s fs) = P s × All (OfOperator P) fs
OfStatement P (Partitioned s fs) = P s × All (OfOperator P) fs

-- it holds of all sorts of a theory's operators and in its statements
pub record OfTheory (P : List ℕ → Type 0) (t : Theory) : Type 0 where
  pub operators : All (OfOperator P) t.operators
  pub statements : All (OfStatement P) t.statements

-- all sorts in the statement are named
abbrev pub HasNamedSorts : Renaming → Statement → Type 0
HasNamedSorts by s = OfStatement (IsNamed by) s
