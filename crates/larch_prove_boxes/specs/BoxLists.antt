-- Lists of boxes.
use Rattle.std.specs.Prelude.{List, [], ◌∷◌, map, Option, None, Some}
use Rattle.larch_derive.specs.declared.open_box.OpenBox.{OpenBox}
use Rattle.larch_prove_invariant.specs.Book.{SupposingBox}

-- the boxes without their hypotheses
abbrev pub boxes_with : List SupposingBox → List OpenBox
boxes_with xs = map (λ x. x.box) xs

-- a box, or none, as a list
abbrev pub box_list : Option OpenBox → List OpenBox
box_list None = []
box_list (Some x) = x ∷ []
