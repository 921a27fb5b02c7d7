-- Variables in the places of constants, and constants in the places of variables.
use Rattle.std.specs.Prelude.{ℕ, suc, if◌then◌else◌, List, [], ◌∷◌, Option, Some, None, option_map, option_and_then}
use Rattle.std.specs.Prelude.{unwrap_or}
use Rattle.std.specs.List.{slice_get}
use Rattle.larch_term.specs.Operator.{OperatorName, PlainOperator}
use Rattle.larch_term.specs.OperatorKey.{same_name}
use Rattle.larch_term.specs.Tree.{Tree, Forest, var, app, none, more}
use Rattle.larch_term.specs.declared.substitution.Entry.{Entry}
use Rattle.larch_term.specs.declared.variable.Variable.{Variable}
use Rattle.larch_calculus.specs.Formula.{constant}

-- how many operators stand before the first that has the name
abbrev pub place_of : List PlainOperator → OperatorName → Option ℕ
place_of [] n = None
place_of (c ∷ cs) n = if same_name c.name n then Some 0 else option_map suc (place_of cs n)

-- the variable that takes the place of the constant with the name
abbrev pub variable_for : List PlainOperator → List Variable → OperatorName → Option Variable
variable_for cs vs n = option_and_then (slice_get vs) (place_of cs n)

abbrev mutual
  -- the term with these variables in the places of these constants, in order
  pub free_constants : List PlainOperator → List Variable → Tree → Tree
  free_constants cs vs (var n s) = var n s
  free_constants cs vs (app f ts) =
      unwrap_or (option_map (λ v. var v.name v.sort) (variable_for cs vs f.name)) (app f (freed_all cs vs ts))

  pub freed_all : List PlainOperator → List Variable → Forest → Forest
  freed_all cs vs none = none
  freed_all cs vs (more t ts) = more (free_constants cs vs t) (freed_all cs vs ts)

-- the substitution of constants for variables, in order
abbrev pub constants_for : List Variable → List PlainOperator → List Entry
constants_for [] cs = []
constants_for (v ∷ vs) [] = []
constants_for (v ∷ vs) (c ∷ cs) = record { name = v.name; sort = v.sort; term = constant c } ∷ constants_for vs cs
