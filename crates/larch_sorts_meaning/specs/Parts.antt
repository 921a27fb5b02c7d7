-- Parts of raw terms and equations, and where their head tokens stand.
use Rattle.std.specs.Prelude.{List, None, Option, Some, [], ◌++◌, ◌∷◌}
use Rattle.larch_base.specs.declared.position.Pos.{Pos}
use Rattle.larch_raw.specs.RawTree.{RawForest, RawTree, apply, no_more, one_more, qualified}
use Rattle.larch_raw.specs.declared.equation.RawEquation.{RawEquation}
use Rattle.larch_raw.specs.declared.equation.RawRight.{RawRight}

abbrev mutual
  -- the terms in a term and itself, inner ones first and from left to right
  pub parts : RawTree → List RawTree
  parts (apply n raws p) = parts_of raws ++ apply n raws p ∷ []
  parts (qualified raw w p) = parts raw ++ qualified raw w p ∷ []

  pub parts_of : RawForest → List RawTree
  parts_of no_more = []
  parts_of (one_more raw raws) = parts raw ++ parts_of raws

-- the terms in a term, itself left out
abbrev pub inner_parts : RawTree → List RawTree
inner_parts (apply n raws p) = parts_of raws
inner_parts (qualified raw w p) = parts raw

-- where the head token of a term stands
abbrev pub head_of : RawTree → Pos
head_of (apply n raws p) = p
head_of (qualified raw w p) = p

-- the right side, if there is one
abbrev pub right_sides : Option RawRight → List RawTree
right_sides None = []
right_sides (Some right) = right.term ∷ []

-- the sides of an equation from left to right
abbrev pub sides : RawEquation → List RawTree
sides raw = raw.left ∷ right_sides raw.right

-- what stands in the sides of an equation, one after the other
abbrev pub in_sides : {A : Type 0} → (RawTree → List A) → List RawTree → List A
in_sides f [] = []
in_sides f (raw ∷ raws) = f raw ++ in_sides f raws

-- where the head token of an equation stands: the `==`, or that of its term where it is a formula
abbrev pub equation_head : RawEquation → Option RawRight → Pos
equation_head raw None = head_of raw.left
equation_head raw (Some right) = right.pos
