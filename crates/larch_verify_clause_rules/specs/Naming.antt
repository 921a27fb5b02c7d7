-- Variables named by the places of their sorts.
use Rattle.std.specs.Prelude.{ℕ, suc, List, [], ◌∷◌}
use Rattle.larch_term.specs.Tree.{Tree, var}
use Rattle.larch_term.specs.declared.variable.Variable.{Variable}

-- variables of these sorts, by these names, the first of which has a number
abbrev pub variables_named : (ℕ → List ℕ) → ℕ → List (List ℕ) → List Variable
variables_named names k [] = []
variables_named names k (r ∷ rs) = record { name = names k; sort = r } ∷ variables_named names (suc k) rs

-- a variable as a term
abbrev pub variable_term : Variable → Tree
variable_term v = var v.name v.sort
