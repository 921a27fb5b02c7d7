-- Theories with more operators and statements.
use Rattle.std.specs.Prelude.{◌≡◌, ◌≢◌, ℕ, List, [], ◌++◌, All, AllPairs, Contains}
use Rattle.larch_term.specs.Operator.{OperatorName, PlainOperator}
use Rattle.larch_term.specs.Tree.{Tree}
use Rattle.larch_term.specs.Sorts.{sort_of, IsKnown, IsTermOver}
use Rattle.larch_term.specs.declared.statement.Statement.{Statement}
use Rattle.larch_term.specs.declared.statement.Theory.{Theory}

-- a well sorted term of a sort
abbrev pub IsTermOf : List PlainOperator → List ℕ → Tree → Type 0
IsTermOf fs s t = IsTermOver fs t × (sort_of t ≡ s)

-- the theory with more statements behind its own
abbrev pub with_statements : Theory → List Statement → Theory
with_statements t ss = record { operators = t.operators; statements = t.statements ++ ss }

-- the theory with more operators and statements behind its own
abbrev pub extend : Theory → List PlainOperator → List Statement → Theory
extend t fs ss = record { operators = t.operators ++ fs; statements = t.statements ++ ss }

-- one list begins the other
abbrev pub IsFront : {X : Type 0} → List X → List X → Type 0
IsFront {X} xs ys = (rest : List X) × (ys ≡ xs ++ rest)

-- the first theory's operators and statements begin the second's
abbrev pub IsPrefix : Theory → Theory → Type 0
IsPrefix t u = IsFront t.operators u.operators × IsFront t.statements u.statements

-- the first theory's operators and statements all occur in the second
pub record IsIncluded (t u : Theory) : Type 0 where
  pub operators : (f : PlainOperator) → Contains t.operators f → Contains u.operators f
  pub statements : (s : Statement) → Contains t.statements s → Contains u.statements s

-- no operator of the theory and no built-in one has the name
abbrev pub IsNewName : Theory → OperatorName → Type 0
IsNewName t n = (f : PlainOperator) → IsKnown t.operators f → f.name ≢ n

-- the operators have new names, each another one
pub record AreNew (t : Theory) (fs : List PlainOperator) : Type 0 where
  pub names : All (λ f. IsNewName t f.name) fs
  pub different : AllPairs (λ f g. f.name ≢ g.name) fs

-- the operators take no arguments
abbrev pub AreConstants : List PlainOperator → Type 0
AreConstants fs = All (λ f. f.domain ≡ []) fs
