-- Sorts of terms, and well sorted terms.
use Rattle.std.specs.Prelude.{◌≡◌, ℕ, List, [], ◌∷◌, Contains, ◌⊎◌}
use Rattle.larch_term.specs.Operator.{PlainOperator}
use Rattle.larch_term.specs.Tree.{Tree, Forest, var, app, none, more}
use Rattle.larch_term.specs.BuiltIn.{IsBuiltIn}

-- the sort of a term: its variable's, or its operator's range
abbrev pub sort_of : Tree → List ℕ
sort_of (var n s) = s
sort_of (app f ts) = f.range

-- the sorts of arguments
abbrev pub sorts_of : Forest → List (List ℕ)
sorts_of none = []
sorts_of (more t ts) = sort_of t ∷ sorts_of ts

abbrev mutual
  -- everywhere in the term the arguments' sorts are the operator's domain
  pub WellSorted : Tree → Type 0
  WellSorted (var n s) = Unit {0}
  WellSorted (app f ts) = (sorts_of ts ≡ f.domain) × AllWellSorted ts

  pub AllWellSorted : Forest → Type 0
  AllWellSorted none = Unit {0}
  AllWellSorted (more t ts) = WellSorted t × AllWellSorted ts

-- an operator is one of these or built in
abbrev pub IsKnown : List PlainOperator → PlainOperator → Type 0
IsKnown fs f = Contains fs f ⊎ IsBuiltIn f

abbrev mutual
  -- each operator in the term is one of these or built in
  pub IsOver : List PlainOperator → Tree → Type 0
  IsOver fs (var n s) = Unit {0}
  IsOver fs (app f ts) = IsKnown fs f × AllOver fs ts

  pub AllOver : List PlainOperator → Forest → Type 0
  AllOver fs none = Unit {0}
  AllOver fs (more t ts) = IsOver fs t × AllOver fs ts

-- a well sorted term over operators
abbrev pub IsTermOver : List PlainOperator → Tree → Type 0
IsTermOver fs t = WellSorted t × IsOver fs t
