-- What the turns of the machine mean: what belongs to the store, and how much work each leaves.
use Rattle.std.specs.Prelude.{◌≡◌, ◌+◌, ℕ, List, [], All, map, drop, length, reverse, slice_get, Some, None}
use Rattle.larch_term.specs.Operator.{PlainOperator, plain}
use Rattle.larch_term.specs.Tree.{Tree, var}
use Rattle.larch_rewrite_meaning.specs.NormalForm.{normal}
use Rattle.larch_rewrite_meaning.specs.Sides.{Sides}
use Rattle.larch_rewrite_meaning.specs.Work.{Work, Made}
use Rattle.larch_rewrite_law.specs.Levels.{root_work, arguments_work}
use Rattle.larch_rewrite_law.specs.Stacked.{Waiting, Wait}
use Rattle.larch_store.specs.Numbered.{Numbered, leaf, branch, term_of, list_of_several, children_of}
use Rattle.larch_store.specs.Stored.{Belongs, AllBelong}
use Rattle.larch_rewrite.specs.Kept.{IsForm, IsOfStore}
use Rattle.larch_rewrite.specs.declared.kept.KeptForm.{KeptForm}
use Rattle.larch_rewrite.specs.declared.level.Level.{Level}
use Rattle.larch_rewrite.specs.declared.level.Frame.{Frame}
use Rattle.larch_rewrite.specs.declared.level.Turn.{Turn}
use Rattle.larch_rewrite.specs.declared.level.Turn.TheVariants.{Begin, Arguments, Root, Finish}

-- the level that a turn is about, and the arguments that are done
abbrev pub level_of : Turn → Level
level_of (Begin l) = l
level_of (Arguments f) = f.level
level_of (Root l) = l
level_of (Finish l) = l

abbrev pub done_of : Turn → List Numbered
done_of (Begin l) = []
done_of (Arguments f) = f.done
done_of (Root l) = []
done_of (Finish l) = []

-- the term whose normal form is sought there, and the budget with which that began
abbrev pub start_of : Turn → Tree
start_of turn = term_of (level_of turn).start

abbrev pub begun_of : Turn → ℕ
begun_of turn = (level_of turn).begun

-- two turns are about one start under one budget
abbrev pub HaveOneStart : Turn → Turn → Type 0
HaveOneStart t u = ((level_of t).start ≡ (level_of u).start) × ((level_of t).begun ≡ (level_of u).begun)

-- ---- what belongs to the store

-- the terms of a turn
abbrev pub IsTurnOf : List Numbered → Turn → Type 0
IsTurnOf store turn =
    Belongs store (level_of turn).start × Belongs store (level_of turn).term × AllBelong store (done_of turn)

abbrev pub IsApplication : Numbered → Type 0
IsApplication (leaf k z n s) = ⊥
IsApplication (branch k z f xs) = Unit {0}

-- the terms of a frame, whose term has arguments
abbrev pub IsFrameOf : List Numbered → Frame → Type 0
IsFrameOf store f =
    Belongs store f.level.start × Belongs store f.level.term × AllBelong store f.done × IsApplication f.level.term

-- all that the machine has
pub record IsStored (store : List Numbered) (kept : List KeptForm) (frames : List Frame) (turn : Turn) : Type 0 where
  pub kept_are : All (IsOfStore store) kept
  pub frames_are : All (IsFrameOf store) frames
  pub turn_is : IsTurnOf store turn

-- ---- how much work is left

-- the work on a term, some of whose arguments are done; a variable has none
abbrev pub arguments_left : List Sides → Numbered → List Numbered → ℕ → Work Tree
arguments_left rules (leaf k z n s) done b = root_work rules (var n s) b
arguments_left rules (branch k z f xs) done b =
    arguments_work rules f (map term_of done) (map term_of (drop (length done) (list_of_several xs))) b

-- the work that a turn leaves on its level
abbrev pub work_at : List Sides → Turn → ℕ → Work Tree
work_at rules (Begin l) b = normal rules (term_of l.term) b
work_at rules (Arguments f) b = arguments_left rules f.level.term f.done b
work_at rules (Root l) b = root_work rules (term_of l.term) b
work_at rules (Finish l) b = Made (term_of l.term) b

-- the operator of an application; nobody asks for that of a variable
abbrev pub operator_of : Numbered → PlainOperator
operator_of (leaf k z n s) = record { name = plain n; domain = []; range = s }
operator_of (branch k z f xs) = f

-- what waits in a frame for the argument behind those that are done
abbrev pub further_of : Frame → List Tree
further_of f = map term_of (drop (length f.done + 1) (children_of f.level.term))

abbrev pub waiting_of : Frame → Waiting
waiting_of f = record {
  start = term_of f.level.start;
  budget = f.level.begun;
  operator = operator_of f.level.term;
  done = map term_of f.done;
  further = further_of f;
}

-- The machine works on the normal form of a term under a budget: what is kept are normal forms, the work that its turn
-- leaves is that on its start, and for this the frames wait, the innermost last.
pub record Works (rules : List Sides) (whole : Tree) (budget : ℕ) (kept : List KeptForm) (frames : List Frame)
    (turn : Turn)
    (b : ℕ) : Type 0 where
  pub forms : All (IsForm rules) kept
  pub work : normal rules (start_of turn) (begun_of turn) ≡ work_at rules turn b
  pub wait : Wait rules whole budget (map waiting_of (reverse frames)) (start_of turn) (begun_of turn)

-- the level of the first argument of a frame that isn't done, where so much is left of the budget
abbrev pub IsArgument : Frame → ℕ → Level → Type 0
IsArgument f b l =
    IsApplication f.level.term × (slice_get (children_of f.level.term) (length f.done) ≡ Some l.start)
    × (l.begun ≡ b) × (l.way ≡ None) × (l.term ≡ l.start)

-- a turn is the last one: it is a normal form, and no frame waits for it
abbrev pub IsLast : List Frame → Turn → Type 0
IsLast frames (Begin l) = ⊥
IsLast frames (Arguments f) = ⊥
IsLast frames (Root l) = ⊥
IsLast frames (Finish l) = frames ≡ []
