-- Variables of a term, in order of occurrence.
use Rattle.std.specs.Prelude.{if◌then◌else◌, ◌&&◌, Bool, List, [], ◌∷◌, ◌++◌, fold, bytes_eq}
use Rattle.std.specs.List.{list_any}
use Rattle.larch_term.specs.Tree.{Tree, Forest, var, app, none, more}
use Rattle.larch_term.specs.declared.variable.Variable.{Variable}

abbrev mutual
  -- the variables of a term, each as often as it occurs, from left to right
  pub occurrences : Tree → List Variable
  occurrences (var n s) = record { name = n; sort = s } ∷ []
  occurrences (app f ts) = occurrences_in ts

  pub occurrences_in : Forest → List Variable
  occurrences_in none = []
  occurrences_in (more t ts) = occurrences t ++ occurrences_in ts

-- whether two variables have one name and one sort
abbrev pub same_variable : Variable → Variable → Bool
same_variable v w = bytes_eq v.name w.name && bytes_eq v.sort w.sort

-- the list with a variable behind it, unless it is there
abbrev pub with_variable : List Variable → Variable → List Variable
with_variable vs v = if list_any (same_variable v) vs then vs else (vs ++ v ∷ [])

-- the different variables of a term, in the order in which each occurs first
abbrev pub variables_of : Tree → List Variable
variables_of t = fold with_variable [] (occurrences t)
