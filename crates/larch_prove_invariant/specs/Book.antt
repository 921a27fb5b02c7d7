-- What is kept beside the levels of a proof: by which lines and boxes a builder holds them.
use Rattle.std.specs.Prelude.{◌≡◌, ℕ, List, [], ◌∷◌, ◌++◌, map, Option, None, Some}
use Rattle.std.specs.List.{flat_map}
use Rattle.larch_term.specs.Operator.{PlainOperator}
use Rattle.larch_term.specs.Tree.{Tree}
use Rattle.larch_term.specs.declared.statement.Statement.{Statement}
use Rattle.larch_derive.specs.declared.open_box.OpenBox.{OpenBox}
use Rattle.larch_methods.specs.ProveMeaningLevels.{Level}
use Rattle.larch_methods.specs.ProveMeaningPlans.{Method, Plan, Setting, Subgoal}

-- an open box with its hypotheses
pub record SupposingBox : Type 0 where
  pub box : OpenBox
  pub hypotheses : List Statement

-- how a subgoal was left: by a box that was closed, or by a line where its method opens no box
pub data Left : Type 0 where
  InBox : OpenBox → Left
  AtLine : ℕ → Left

-- a subgoal that was proved, and how it was left
pub record Done : Type 0 where
  pub subgoal : Subgoal
  pub left : Left

-- A method that runs on a level: with what it was planned, and its plan; the box that all its subgoals share, if it has
-- one; the subgoals that were proved, in order, and the one that is open.
pub record Running : Type 0 where
  pub method : Method
  pub setting : Setting
  pub plan : Plan
  pub shared : List SupposingBox
  pub done : List Done
  pub now : Subgoal

-- What is kept of a level: the line of each fact; that of true == false, where there is one; the level's first goal,
-- and the line that says that it equals the present one; the box by which the level was entered, if it has one; the
-- boxes for constants whose own box isn't open; and the method that runs on it, if one does.
pub record Book : Type 0 where
  pub lines : List ℕ
  pub absurd : Option ℕ
  pub first : Tree
  pub way : ℕ
  pub entrance : List SupposingBox
  pub extras : List SupposingBox
  pub running : Option Running

-- a level with what is kept of it
pub record Kept : Type 0 where
  pub level : Level
  pub book : Book

-- the box that a method's subgoals share
abbrev pub shared_boxes : Option Running → List SupposingBox
shared_boxes None = []
shared_boxes (Some r) = r.shared

-- the boxes that a level keeps open for itself, the outermost first
abbrev pub own_boxes : Book → List SupposingBox
own_boxes k = k.entrance ++ k.extras

-- those, and inside of them the one of its method
abbrev pub boxes_of : Book → List SupposingBox
boxes_of k = own_boxes k ++ shared_boxes k.running

-- the boxes of all levels, the outermost first, where the current level is the first of a list
abbrev pub all_boxes : List Kept → List SupposingBox
all_boxes [] = []
all_boxes (k ∷ ks) = all_boxes ks ++ boxes_of k.book

-- the constants and predicates of boxes
abbrev pub made_in : List SupposingBox → List PlainOperator
made_in xs = flat_map (λ x. x.box.constants) xs

-- those of the box by which the lowest level was entered
abbrev pub made_first : List Kept → List PlainOperator
made_first [] = []
made_first (k ∷ []) = made_in k.book.entrance
made_first (k ∷ j ∷ ks) = made_first (j ∷ ks)

-- the levels themselves
abbrev pub levels_of : List Kept → List Level
levels_of ks = map (λ k. k.level) ks

-- with a further box for a constant
abbrev pub with_extra : SupposingBox → Kept → Kept
with_extra x k = record k { book = record k.book { extras = k.book.extras ++ x ∷ [] } }

-- the level on which a method runs so, while these subgoals wait
abbrev pub with_running : Running → List Subgoal → Kept → Kept
with_running r waiting k = record {
  level = record k.level { remaining = waiting };
  book = record k.book { running = Some r };
}

-- the method with its open subgoal proved, and the next one open
abbrev pub next_running : Left → Subgoal → Running → Running
next_running left next r = record r { done = r.done ++ record { subgoal = r.now; left = left } ∷ []; now = next }

-- how the subgoals of a method were left, in order, the open one being left so
abbrev pub all_left : Running → Left → List Left
all_left r left = map (λ d. d.left) r.done ++ left ∷ []

-- no method runs on the level, and no subgoal waits
pub record Rests (k : Kept) : Type 0 where
  pub running : k.book.running ≡ None
  pub remaining : k.level.remaining ≡ []

-- the second level is the first one with other facts or another goal
pub record IsWorkedOn (k j : Kept) : Type 0 where
  pub purpose : j.level.purpose ≡ k.level.purpose
  pub first : j.book.first ≡ k.book.first
  pub entrance : j.book.entrance ≡ k.book.entrance
  pub extras : j.book.extras ≡ k.book.extras
  pub before : Rests k
  pub behind : Rests j
