-- All readings of raw terms and equations, as lists.
use Rattle.std.specs.Cmp.Lexicographic.{pointwise}
use Rattle.std.specs.List.{flat_map}
use Rattle.std.specs.Prelude.{if◌then◌else◌, Bool, List, None, Option, Some, [], bytes_eq, filter, map, ℕ, ◌∷◌}
use Rattle.larch_raw.specs.RawTree.{RawForest, RawTree, apply, no_more, one_more, qualified}
use Rattle.larch_raw.specs.declared.equation.RawEquation.{RawEquation}
use Rattle.larch_raw.specs.declared.equation.RawRight.{RawRight}
use Rattle.larch_term.specs.Operator.{PlainOperator, plain}
use Rattle.larch_term.specs.Sorts.{sort_of, sorts_of}
use Rattle.larch_term.specs.Tree.{Forest, Tree, app, more, none, var}
use Rattle.larch_term.specs.BuiltIn.{bool_sort}
use Rattle.larch_term.specs.declared.statement.Statement.{Statement}
use Rattle.larch_term.specs.declared.statement.Statement.TheVariants.{Equation}
use Rattle.larch_term.specs.Equality.{same_name}
use Rattle.larch_sorts_meaning.specs.Readings.{variable_sort}
use Rattle.larch_term.specs.Truth.{truth}
use Rattle.larch_sorts_meaning.specs.Scope.{Variables}
use Rattle.larch_sorts_meaning.specs.Signature.{taking_part}

-- whether arguments have these sorts
abbrev pub have_sorts : List (List ℕ) → Forest → Bool
have_sorts ss ts = pointwise bytes_eq (sorts_of ts) ss

-- an operator with each of these lists of arguments that fits it, if it has this name
abbrev pub applications : List ℕ → List Forest → PlainOperator → List Tree
applications n choices f = if same_name f.name (plain n) then map (app f) (filter (have_sorts f.domain) choices) else []

-- the variable that a name means, or else what it reads as among operators
abbrev pub variable_or : Option (List ℕ) → List ℕ → List Tree → List Tree
variable_or (Some s) n others = var n s ∷ []
variable_or None n others = others

unfoldable mutual
  -- the readings of a term
  pub readings : List PlainOperator → Variables → RawTree → List Tree
  readings fs vs (apply n raws p) =
      variable_or (variable_sort vs n raws) n (flat_map (applications n (choices fs vs raws)) (taking_part fs))
  readings fs vs (qualified raw w p) = filter (λ t. bytes_eq (sort_of t) w.name) (readings fs vs raw)

  -- the lists with a reading of each argument
  pub choices : List PlainOperator → Variables → RawForest → List Forest
  choices fs vs no_more = none ∷ []
  choices fs vs (one_more raw raws) = flat_map (λ t. map (more t) (choices fs vs raws)) (readings fs vs raw)

-- what stands right beside a left side
abbrev pub right_readings : List PlainOperator → Variables → Option RawRight → Tree → List Tree
right_readings fs vs None l = if bytes_eq (sort_of l) bool_sort then truth ∷ [] else []
right_readings fs vs (Some right) l = filter (λ r. bytes_eq (sort_of l) (sort_of r)) (readings fs vs right.term)

-- the readings of an equation or formula
abbrev pub equation_readings : List PlainOperator → Variables → RawEquation → List Statement
equation_readings fs vs raw =
    flat_map (λ l. map (Equation l) (right_readings fs vs raw.right l)) (readings fs vs raw.left)

-- the readings of a lone term, of the wanted sort where one is wanted
abbrev pub lone_readings : List PlainOperator → Variables → Option (List ℕ) → RawEquation → List Tree
lone_readings fs vs None raw = readings fs vs raw.left
lone_readings fs vs (Some s) raw = filter (λ t. bytes_eq (sort_of t) s) (readings fs vs raw.left)
