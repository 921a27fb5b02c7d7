-- Finite models as data, and the interpretations that they stand for.
use Rattle.std.specs.Prelude.{◌≡◌, ◌≤◌, ◌+◌, ◌*◌, ℕ, suc, if◌then◌else◌, List, [], ◌∷◌, length, map, get_or, bytes_eq}
use Rattle.std.specs.Prelude.{All, Option, None, Some, ◌++◌, true, false}
use Rattle.std.specs.List.{list_all}
use Rattle.larch_term.specs.BuiltIn.{bool_sort}
use Rattle.larch_term.specs.Operator.{PlainOperator}
use Rattle.larch_term.specs.OperatorKey.{same_operator}
use Rattle.larch_term.specs.Tree.{Tree}
use Rattle.larch_term.specs.declared.variable.Variable.{Variable}
use Rattle.larch_term.specs.declared.statement.Statement.{Statement}
use Rattle.larch_term.specs.declared.statement.Statement.TheVariants.{Equation, Generated, Partitioned}
use Rattle.larch_models_meaning.specs.declared.finite_model.FiniteModel.{FiniteModel}
use Rattle.larch_models_meaning.specs.declared.finite_model.OperatorTable.{OperatorTable}
use Rattle.larch_models_meaning.specs.declared.finite_model.SortValues.{SortValues}
use Rattle.larch_models_meaning.specs.Computed.{holds, variables_of_both}
use Rattle.larch_models_meaning.specs.Interpretation.{Interpretation}
use Rattle.larch_models_meaning.specs.Standard.{standard, standard_last}

-- the last value of a sort: as the first that names it says; a sort that none names has the value 0 alone
abbrev pub last_among : List SortValues → List ℕ → ℕ
last_among [] s = 0
last_among (v ∷ vs) s = if bytes_eq v.sort s then v.last else last_among vs s

-- the last value of each sort; Bool has two values whatever is said
abbrev pub last_in : FiniteModel → List ℕ → ℕ
last_in m = standard_last (last_among m.sorts)

-- how many lists of arguments of these sorts there are
abbrev pub argument_lists : (List ℕ → ℕ) → List (List ℕ) → ℕ
argument_lists last [] = 1
argument_lists last (s ∷ ss) = suc (last s) * argument_lists last ss

-- the place of arguments behind so many lists of earlier ones: the last argument runs fastest
abbrev pub place_from : (List ℕ → ℕ) → ℕ → List (List ℕ) → List ℕ → ℕ
place_from last k [] vs = k
place_from last k (s ∷ ss) [] = k
place_from last k (s ∷ ss) (v ∷ vs) = place_from last (k * suc (last s) + v) ss vs

-- the place of a list of arguments among all of them, counted from 0
abbrev pub argument_place : (List ℕ → ℕ) → List (List ℕ) → List ℕ → ℕ
argument_place last ss vs = place_from last 0 ss vs

-- what the first table of an operator makes of arguments
abbrev pub value_among : (List ℕ → ℕ) → List OperatorTable → PlainOperator → List ℕ → ℕ
value_among last [] f vs = 0
value_among last (t ∷ ts) f vs =
    if same_operator t.operator f then get_or t.values (argument_place last f.domain vs) 0
    else value_among last ts f vs

-- the interpretation that a model stands for
abbrev pub interpretation_of : FiniteModel → Interpretation
interpretation_of m = standard (last_among m.sorts) (value_among (last_in m) m.tables)

-- a table has a value of its operator's range for each list of arguments
pub record IsTable (last : List ℕ → ℕ) (t : OperatorTable) : Type 0 where
  pub length : length t.values ≡ argument_lists last t.operator.domain
  pub within : All (λ v. v ≤ last t.operator.range) t.values

-- the model has a table for each of these operators, in order
pub record IsModelOver (fs : List PlainOperator) (m : FiniteModel) : Type 0 where
  pub operators : map (λ (t : OperatorTable). t.operator) m.tables ≡ fs
  pub tables : All (IsTable (last_in m)) m.tables

-- how many assignments variables have
abbrev pub assignment_count : (List ℕ → ℕ) → List Variable → ℕ
assignment_count last [] = 1
assignment_count last (w ∷ ws) = suc (last w.sort) * assignment_count last ws

-- a statement whose truth may be computed: the variables of an equation have at most so many assignments
abbrev pub Fits : ℕ → FiniteModel → Statement → Type 0
Fits most m (Equation l r) = assignment_count (last_in m) (variables_of_both l r) ≤ most
Fits most m (Generated s fs) = Unit {0}
Fits most m (Partitioned s os) = Unit {0}

-- the number of the first of some statements that doesn't hold, where the first has this number
abbrev pub first_failing_from : ℕ → Interpretation → List Statement → Option ℕ
first_failing_from n m [] = None
first_failing_from n m (s ∷ ss) = if holds m s then first_failing_from (suc n) m ss else Some n

-- the number of the first statement that doesn't hold, counted from 1
abbrev pub first_failing : Interpretation → List Statement → Option ℕ
first_failing m ss = first_failing_from 1 m ss

-- of some statements the one with this number is the first that doesn't hold
pub record FailsFirst (m : Interpretation) (ss : List Statement) (k : ℕ) : Type 0 where
  pub before : List Statement
  pub failing : Statement
  pub behind : List Statement
  pub list : ss ≡ before ++ failing ∷ behind
  pub number : k ≡ suc (length before)
  pub hold : list_all (holds m) before ≡ true
  pub fails : holds m failing ≡ false
