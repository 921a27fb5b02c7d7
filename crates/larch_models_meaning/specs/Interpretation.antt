-- Interpretations: finitely many values for each sort, and a table for each operator.
use Rattle.std.specs.Prelude.{◌≡◌, ◌≤◌, ◌==◌, ◌&&◌, ◌||◌, not, ℕ, Bool, if◌then◌else◌, List, [], ◌∷◌, Contains}
use Rattle.larch_term.specs.Operator.{PlainOperator}
use Rattle.larch_term.specs.Tree.{Tree, Forest, var, app, none, more}
use Rattle.larch_term.specs.BuiltIn.{bool_sort, built_in}
use Rattle.larch_term.specs.declared.built_in.BuiltIn.{BuiltIn}
use Rattle.larch_term.specs.declared.built_in.BuiltIn.TheVariants.{True, False, Not, And, Or, Implies, Iff, Equal}
use Rattle.larch_term.specs.declared.built_in.BuiltIn.TheVariants.{Unequal, If}

-- the values of a sort are the numbers up to its last one, so that no sort is empty; an operator's table has a value
-- for each list of arguments
pub record Interpretation : Type 0 where
  pub last : List ℕ → ℕ
  pub table : PlainOperator → List ℕ → ℕ

-- a value for each variable, by name and sort
abbrev pub Assignment : Type 0
Assignment = List ℕ → List ℕ → ℕ

abbrev mutual
  -- the value of a term under an assignment
  pub value_of : Interpretation → Assignment → Tree → ℕ
  value_of m a (var n s) = a n s
  value_of m a (app f ts) = m.table f (values_of m a ts)

  -- the values of arguments
  pub values_of : Interpretation → Assignment → Forest → List ℕ
  values_of m a none = []
  values_of m a (more t ts) = value_of m a t ∷ values_of m a ts

-- a truth value as a number
abbrev pub bit : Bool → ℕ
bit b = if b then 1 else 0

-- whether a number stands for true
abbrev pub is_one : ℕ → Bool
is_one n = n == 1

-- the first of some values
abbrev pub first : List ℕ → ℕ
first [] = 0
first (v ∷ vs) = v

-- the values behind the first
abbrev pub others : List ℕ → List ℕ
others [] = []
others (v ∷ vs) = vs

-- what a built-in operator makes of values
abbrev pub meaning : BuiltIn → List ℕ → ℕ
meaning True vs = 1
meaning False vs = 0
meaning Not vs = bit (not (is_one (first vs)))
meaning And vs = bit (is_one (first vs) && is_one (first (others vs)))
meaning Or vs = bit (is_one (first vs) || is_one (first (others vs)))
meaning Implies vs = bit (not (is_one (first vs)) || is_one (first (others vs)))
meaning Iff vs = bit (first vs == first (others vs))
meaning Equal vs = bit (first vs == first (others vs))
meaning Unequal vs = bit (not (first vs == first (others vs)))
meaning If vs = if is_one (first vs) then first (others vs) else first (others (others vs))

-- the values are arguments of these sorts
abbrev pub Within : (List ℕ → ℕ) → List (List ℕ) → List ℕ → Type 0
Within last [] [] = Unit {0}
Within last [] (v ∷ vs) = ⊥
Within last (s ∷ ss) [] = ⊥
Within last (s ∷ ss) (v ∷ vs) = (v ≤ last s) × Within last ss vs

-- each value of the assignment is one of its variable's sort
abbrev pub InRange : (List ℕ → ℕ) → Assignment → Type 0
InRange last a = (n s : List ℕ) → a n s ≤ last s

-- Bool has two values, built-in operators have their meaning, and the tables of these operators have values of their
-- ranges
pub record IsInterpretation (fs : List PlainOperator) (m : Interpretation) : Type 0 where
  pub two_truth_values : m.last bool_sort ≡ 1
  pub meanings : (b : BuiltIn) (s vs : List ℕ) → m.table (built_in b s) vs ≡ meaning b vs
  pub within : (f : PlainOperator) → Contains fs f → (vs : List ℕ) → Within m.last f.domain vs
      → m.table f vs ≤ m.last f.range
