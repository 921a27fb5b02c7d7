-- Methods whose subgoals were all left.
use Rattle.std.specs.Prelude.{◌≡◌, ℕ, List, map, Option}
use Rattle.larch_term.specs.Tree.{Tree}
use Rattle.larch_derive.specs.declared.builder.Builder.{Builder}
use Rattle.larch_derive.specs.declared.open_box.OpenBox.{OpenBox}
use Rattle.larch_prove_invariant.specs.ProveMeaningPlans.{Method}
use Rattle.larch_prove_invariant.specs.Book.{Running}
use Rattle.larch_prove_invariant.specs.Ending.{HasAllLeft}
use Rattle.larch_prove_boxes.specs.BoxLists.{box_list, boxes_with}
use Rattle.larch_prove_boxes.specs.Leave.{left_of}
use Rattle.larch_prove_boxes.specs.declared.leave.Leave.{Leave}
use Rattle.larch_prove_boxes.specs.declared.leave.Leave.TheVariants.{AtLine, InBox}

-- the number of the box by which a subgoal was left, or of the line
abbrev pub number_of : Leave → ℕ
number_of (InBox x) = x.number
number_of (AtLine n) = n

-- a subgoal was left by a box
abbrev pub IsBoxed : Leave → Type 0
IsBoxed (InBox x) = Unit {0}
IsBoxed (AtLine n) = ⊥

-- all subgoals of a method for a goal were left so, in order, inside of the box that they share, if they share one; the
-- first builder stood outside of it
pub record AreLeft (a b : Builder) (method : Method) (goal : Tree) (shared : Option OpenBox) (lefts : List Leave)
    : Type 0 where
  pub running : Running
  pub method_is : running.method ≡ method
  pub shared_is : boxes_with running.shared ≡ box_list shared
  pub left : HasAllLeft a b goal running (map left_of lefts)
