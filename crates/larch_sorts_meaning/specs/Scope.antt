-- Variables in scope.
use Rattle.std.specs.Map.{lookup}
use Rattle.std.specs.Prelude.{All, Bool, List, Option, Some, [], bytes_eq, false, true, ℕ, ◌++◌, ◌∷◌, ◌≡◌}
use Rattle.larch_term.specs.Variable.{occurrences}
use Rattle.larch_term.specs.Tree.{Tree}
use Rattle.larch_term.specs.declared.statement.Statement.{Statement}
use Rattle.larch_term.specs.declared.statement.Statement.TheVariants.{Equation, Generated, Partitioned}

-- variables in scope: names with their sorts, in order
abbrev pub Variables : Type 0
Variables = List (List ℕ × List ℕ)

-- the sort of the variable of this name, if one is in scope
abbrev pub sort_in : Variables → List ℕ → Option (List ℕ)
sort_in vs n = lookup (bytes_eq n) vs

-- the variables with one more behind them, if it is added
abbrev pub with_variable : Bool → Variables → List ℕ → List ℕ → Variables
with_variable true vs n s = vs ++ (n, s) ∷ []
with_variable false vs n s = vs

-- each variable that occurs in a term is in scope with its sort
abbrev pub HasVariablesOf : Variables → Tree → Type 0
HasVariablesOf vs t = All (λ v. sort_in vs v.name ≡ Some v.sort) (occurrences t)

-- each variable that occurs in a statement is in scope with its sort
abbrev pub IsInScope : Variables → Statement → Type 0
IsInScope vs (Equation l r) = HasVariablesOf vs l × HasVariablesOf vs r
IsInScope vs (Generated s gs) = Unit {0}
IsInScope vs (Partitioned s gs) = Unit {0}
