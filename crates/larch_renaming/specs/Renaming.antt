-- Terms, statements and theories with other sorts and operators in the places of their own.
use Rattle.std.specs.Prelude.{◌≡◌, ℕ, List, map, Contains}
use Rattle.larch_term.specs.BuiltIn.{bool_sort, built_in}
use Rattle.larch_term.specs.Operator.{OperatorName, PlainOperator}
use Rattle.larch_term.specs.Sorts.{IsKnown}
use Rattle.larch_term.specs.Tree.{Tree, Forest, var, app, none, more}
use Rattle.larch_term.specs.declared.built_in.BuiltIn.{BuiltIn}
use Rattle.larch_term.specs.declared.statement.Statement.{Statement}
use Rattle.larch_term.specs.declared.statement.Statement.TheVariants.{Equation, Generated, Partitioned}
use Rattle.larch_term.specs.declared.statement.Theory.{Theory}
use Rattle.larch_term.specs.declared.substitution.Entry.{Entry}
use Rattle.larch_term.specs.declared.variable.Variable.{Variable}

-- a renaming: the sort that takes the place of each sort, and the operator that takes the place of each operator
pub record Renaming : Type 0 where
  pub sort : List ℕ → List ℕ
  pub operator : PlainOperator → PlainOperator

-- the renaming that changes nothing
abbrev pub no_renaming : Renaming
no_renaming = record { sort = λ s. s; operator = λ f. f }

-- the renaming that does what the second does and then what the first does
abbrev pub after : Renaming → Renaming → Renaming
after r q = record { sort = λ s. r.sort (q.sort s); operator = λ f. r.operator (q.operator f) }

-- the renaming that gives operators other names, and changes no sort
abbrev pub by_name : (OperatorName → OperatorName) → Renaming
by_name new = record { sort = λ s. s; operator = λ f. record { name = new f.name; domain = f.domain; range = f.range } }

abbrev mutual
  -- the term with other sorts and operators; a variable keeps its name
  pub rename_tree : Renaming → Tree → Tree
  rename_tree r (var n s) = var n (r.sort s)
  rename_tree r (app f ts) = app (r.operator f) (renamed_all r ts)

  pub renamed_all : Renaming → Forest → Forest
  renamed_all r none = none
  renamed_all r (more t ts) = more (rename_tree r t) (renamed_all r ts)

-- the variable at its other sort
abbrev pub renamed_variable : Renaming → Variable → Variable
renamed_variable r v = record { name = v.name; sort = r.sort v.sort }

-- the entry for the variable at its other sort
abbrev pub renamed_entry : Renaming → Entry → Entry
renamed_entry r e = record { name = e.name; sort = r.sort e.sort; term = rename_tree r e.term }

abbrev pub renamed_statement : Renaming → Statement → Statement
renamed_statement r (Equation left right) = Equation (rename_tree r left) (rename_tree r right)
renamed_statement r (Generated s fs) = Generated (r.sort s) (map r.operator fs)
renamed_statement r (Partitioned s fs) = Partitioned (r.sort s) (map r.operator fs)

abbrev pub renamed_theory : Renaming → Theory → Theory
renamed_theory r t =
    record { operators = map r.operator t.operators; statements = map (renamed_statement r) t.statements }

-- each operator has the signature of the one in whose place it stands, at the other sorts
pub record FitsSignatures (r : Renaming) : Type 0 where
  pub domain : (f : PlainOperator) → (r.operator f).domain ≡ map r.sort f.domain
  pub range : (f : PlainOperator) → (r.operator f).range ≡ r.sort f.range

-- Bool stays, and each built-in operator becomes itself at the other sort
pub record KeepsBuiltIns (r : Renaming) : Type 0 where
  pub truth_values : r.sort bool_sort ≡ bool_sort
  pub operators : (b : BuiltIn) (s : List ℕ) → r.operator (built_in b s) ≡ built_in b (r.sort s)

-- operators that are known among some become such as are known among others
abbrev pub Carries : Renaming → List PlainOperator → List PlainOperator → Type 0
Carries r fs gs = (f : PlainOperator) → IsKnown fs f → IsKnown gs (r.operator f)

-- two renamings do the same with each sort, and with each operator that is known among some
pub record AreAlikeOver (r q : Renaming) (fs : List PlainOperator) : Type 0 where
  pub sorts : (s : List ℕ) → r.sort s ≡ q.sort s
  pub operators : (f : PlainOperator) → IsKnown fs f → r.operator f ≡ q.operator f

-- two renamings do the same with each sort and each operator
pub record AreAlike (r q : Renaming) : Type 0 where
  pub sorts : (s : List ℕ) → r.sort s ≡ q.sort s
  pub operators : (f : PlainOperator) → r.operator f ≡ q.operator f

-- no variable that is listed becomes that of an entry, at another sort before
abbrev pub TellsApart : Renaming → List Entry → List Variable → Type 0
TellsApart r es vs = (e : Entry) (v : Variable) → Contains es e → Contains vs v → e.name ≡ v.name
    → r.sort e.sort ≡ r.sort v.sort → e.sort ≡ v.sort
