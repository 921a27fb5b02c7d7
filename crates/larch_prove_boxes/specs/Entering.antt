-- How a subgoal is entered.
use Rattle.std.specs.Prelude.{◌≡◌, List, [], ◌∷◌, map}
use Rattle.std.specs.List.{AllZip}
use Rattle.larch_derive.specs.Predicates.{HasEquation, Known}
use Rattle.larch_derive.specs.declared.builder.Builder.{Builder}
use Rattle.larch_prove_invariant.specs.ProveMeaningPlans.{Method, Subgoal}
use Rattle.larch_prove_invariant.specs.Book.{SupposingBox}
use Rattle.larch_prove_invariant.specs.Holding.{Through, entrances, own_shape, shape_of}
use Rattle.larch_prove_boxes.specs.BoxLists.{box_list, boxes_with}
use Rattle.larch_prove_boxes.specs.declared.entering.Entrance.{Entrance}

-- a subgoal's goal can be written wherever its box is open
abbrev pub IsKnownInside : Builder → Subgoal → Type 0
IsKnownInside a g = (b : Builder) (x : SupposingBox) → Through a (x ∷ []) b → shape_of x ≡ own_shape g → Known b g.goal

-- From the first builder to the second the box was opened in which the method proves the subgoal, if it has one; there
-- lines say the subgoal's hypotheses, in order, and that its goal equals itself.
pub record IsEntrance (a b : Builder) (method : Method) (g : Subgoal) (e : Entrance) : Type 0 where
  pub boxes : List SupposingBox
  pub opened : boxes_with boxes ≡ box_list e.opened
  pub shapes : map shape_of boxes ≡ entrances method g
  pub through : Through a boxes b
  pub hypotheses : AllZip (λ h n. HasEquation b n h.left h.right) g.hypotheses e.hypotheses
  pub way : HasEquation b e.way g.goal g.goal
