-- What laws say of the sorts and the variables in terms and statements.
use Rattle.std.specs.Prelude.{◌≡◌, ◌⊎◌, ℕ, List, [], ◌∷◌, ◌++◌, All, Contains}
use Rattle.larch_term.specs.BuiltIn.{bool_sort}
use Rattle.larch_term.specs.Operator.{PlainOperator}
use Rattle.larch_term.specs.Tree.{Tree, Forest, var, app, none, more}
use Rattle.larch_term.specs.Variable.{occurrences}
use Rattle.larch_term.specs.declared.statement.Statement.{Statement}
use Rattle.larch_term.specs.declared.statement.Statement.TheVariants.{Equation, Generated, Partitioned}

-- the sorts of an operator: those of its domain, and its range
abbrev pub sorts_of_operator : PlainOperator → List (List ℕ)
sorts_of_operator f = f.domain ++ f.range ∷ []

-- the sort is Bool, or stands in one of the operators
abbrev pub IsSortOf : List PlainOperator → List ℕ → Type 0
IsSortOf fs s = (s ≡ bool_sort) ⊎ ((f : PlainOperator) × Contains fs f × Contains (sorts_of_operator f) s)

-- each sort of the operator has this property
abbrev pub OperatorSorts : (List ℕ → Type 0) → PlainOperator → Type 0
OperatorSorts P f = All P (sorts_of_operator f)

abbrev mutual
  -- each sort of a variable or an operator in the term has this property
  pub TermSorts : (List ℕ → Type 0) → Tree → Type 0
  TermSorts P (var n s) = P s
  TermSorts P (app f ts) = OperatorSorts P f × ForestSorts P ts

  pub ForestSorts : (List ℕ → Type 0) → Forest → Type 0
  ForestSorts P none = Unit {0}
  ForestSorts P (more t ts) = TermSorts P t × ForestSorts P ts

-- each sort in the statement has this property
abbrev pub StatementSorts : (List ℕ → Type 0) → Statement → Type 0
StatementSorts P (Equation l r) = TermSorts P l × TermSorts P r
StatementSorts P (Generated s gs) = P s × All (OperatorSorts P) gs
StatementSorts P (Partitioned s gs) = P s × All (OperatorSorts P) gs

-- each name of a variable in the statement has this property
abbrev pub StatementVariables : (List ℕ → Type 0) → Statement → Type 0
StatementVariables P (Equation l r) = All (λ v. P v.name) (occurrences l) × All (λ v. P v.name) (occurrences r)
StatementVariables P (Generated s gs) = Unit {0}
StatementVariables P (Partitioned s gs) = Unit {0}
