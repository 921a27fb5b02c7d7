-- Interpretations from any tables for the operators that aren't built in.
use Rattle.std.specs.Prelude.{ℕ, min, Bool, if◌then◌else◌, List, [], ◌∷◌, bytes_eq, Option, Some, None}
use Rattle.larch_term.specs.Operator.{PlainOperator, plain}
use Rattle.larch_term.specs.BuiltIn.{bool_sort, built_in}
use Rattle.larch_term.specs.declared.built_in.BuiltIn.{BuiltIn}
use Rattle.larch_term.specs.declared.built_in.BuiltIn.TheVariants.{True, False, Not, And, Or, Implies, Iff, Equal}
use Rattle.larch_term.specs.declared.built_in.BuiltIn.TheVariants.{Unequal, If}
use Rattle.larch_term.specs.OperatorKey.{same_name, same_operator}
use Rattle.larch_models_meaning.specs.Interpretation.{Interpretation, meaning}

-- the last sort of a domain: that at which a built-in operator is taken, if it is there for each sort
abbrev pub last_sort : List (List ℕ) → List ℕ
last_sort [] = []
last_sort (s ∷ []) = s
last_sort (s ∷ r ∷ rs) = last_sort (r ∷ rs)

-- the built-in operators
abbrev pub every_built_in : List BuiltIn
every_built_in = True ∷ False ∷ Not ∷ And ∷ Or ∷ Implies ∷ Iff ∷ Equal ∷ Unequal ∷ If ∷ []

-- the first of these built-in operators that an operator is
abbrev pub built_in_among : PlainOperator → List BuiltIn → Option BuiltIn
built_in_among f [] = None
built_in_among f (b ∷ bs) = if same_operator f (built_in b (last_sort f.domain)) then Some b else built_in_among f bs

-- Bool has two values
abbrev pub standard_last : (List ℕ → ℕ) → List ℕ → ℕ
standard_last last s = if bytes_eq s bool_sort then 1 else last s

-- the meaning of a built-in operator, and else a value, or the last of its sort where that is less
abbrev pub standard_value : Option BuiltIn → ℕ → ℕ → List ℕ → ℕ
standard_value None n v vs = min n v
standard_value (Some b) n v vs = meaning b vs

-- these last values and these tables, but for what every interpretation has
abbrev pub standard : (List ℕ → ℕ) → (PlainOperator → List ℕ → ℕ) → Interpretation
standard last tables = record {
  last = standard_last last;
  table = λ f vs. standard_value (built_in_among f every_built_in) (standard_last last f.range) (tables f vs) vs;
}

-- whether an operator has this name
abbrev pub is_named : PlainOperator → List ℕ → Bool
is_named f n = same_name f.name (plain n)
