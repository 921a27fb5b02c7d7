-- The constants of a block that a term names though no open box makes them.
use Rattle.std.specs.Prelude.{◌&&◌, Bool, not, if◌then◌else◌, List, [], ◌∷◌, ◌++◌}
use Rattle.std.specs.List.{list_any}
use Rattle.larch_term.specs.Equality.{same_operator}
use Rattle.larch_term.specs.Operator.{PlainOperator}
use Rattle.larch_term.specs.Tree.{Tree, Forest, var, app, none, more}

abbrev mutual
  -- the operators of a term, each as often as it stands there, from left to right
  pub operators_in : Tree → List PlainOperator
  operators_in (var n s) = []
  operators_in (app f ts) = f ∷ operators_in_all ts

  pub operators_in_all : Forest → List PlainOperator
  operators_in_all none = []
  operators_in_all (more t ts) = operators_in t ++ operators_in_all ts

-- whether an operator is one of these
abbrev pub is_among : List PlainOperator → PlainOperator → Bool
is_among fs f = list_any (same_operator f) fs

-- of operators in turn those that are a block's and aren't open, each once
abbrev pub unopened_of : List PlainOperator → List PlainOperator → List PlainOperator → List PlainOperator
unopened_of block opened [] = []
unopened_of block opened (f ∷ fs) =
    if is_among block f && not (is_among opened f) then f ∷ unopened_of block (opened ++ f ∷ []) fs
    else unopened_of block opened fs

-- the constants of a block that a term has and that aren't open, in the order in which they occur first
abbrev pub unopened_in : List PlainOperator → List PlainOperator → Tree → List PlainOperator
unopened_in block opened t = unopened_of block opened (operators_in t)
