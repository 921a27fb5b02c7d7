-- Levels that rise: what is there of one that is proved and of the one below, and that this is so of some proof.
use Rattle.std.specs.Prelude.{◌≡◌, ◌++◌, ◌+◌, ◌-◌, ◌*◌, ℕ, List, [], ◌∷◌, None, Option, Some, length, sum_by}
use Rattle.std.specs.Prelude.{Result, true}
use Rattle.larch_base.specs.declared.code.Code.{Code}
use Rattle.larch_derive.specs.Predicates.{HasEquation}
use Rattle.larch_derive.specs.declared.builder.Builder.{Builder}
use Rattle.larch_derive.specs.declared.open_box.OpenBox.{OpenBox}
use Rattle.larch_prove_draft.specs.OrderPrecedenceRanked.{Ranked}
use Rattle.larch_prove_draft.specs.ProveBoxesBoxLists.{box_list, boxes_with}
use Rattle.larch_prove_draft.specs.ProveBoxesLeave.{left_of}
use Rattle.larch_prove_draft.specs.ProveBoxesLeaveLeave.{Leave}
use Rattle.larch_prove_draft.specs.Draft.{AreBelow, AreOpen, Counts, IsShown, IsShownIn, Leads, Stands, below_in}
use Rattle.larch_prove_draft.specs.Proving.{IsOver}
use Rattle.larch_prove_draft.specs.declared.draft.Draft.{Draft}
use Rattle.larch_prove_draft.specs.ProveInvariantBook.{Book, Kept, Running, SupposingBox}
use Rattle.larch_prove_draft.specs.ProveInvariantHolding.{HasLeft, HoldsLevels, IsPlanned, Says}
use Rattle.larch_prove_draft.specs.ProveInvariantLeaving.{Leaving}
use Rattle.larch_prove_draft.specs.ProveLevelsDerived.{if_settled}
use Rattle.larch_prove_draft.specs.ProveLevelsLevel.{IsKept, IsReady, IsStored}
use Rattle.larch_prove_draft.specs.ProveLevelsLevelLevel.{Level}
use Rattle.larch_prove_draft.specs.ProveLevelsLevelPlanned.{Planned}
use Rattle.larch_prove_draft.specs.ProveLevelsLevelRunning.{Running as RunningHere}
use Rattle.larch_prove_draft.specs.ProveMeaningLevels as defined
use Rattle.larch_prove_draft.specs.ProveMeaningLevels.{Proof, rise}
use Rattle.larch_prove_draft.specs.ProveMeaningPlans as planned
use Rattle.larch_prove_draft.specs.ProveMeaningPlans.{holds}
use Rattle.larch_prove_draft.specs.ProvePlansPlanning.{method_of, subgoal_of}
use Rattle.larch_prove_draft.specs.ProvePlansSubgoalsMethod.{Method}
use Rattle.larch_prove_draft.specs.ProvePlansSubgoalsSubgoal.{Subgoal}
use Rattle.larch_store.specs.Numbered.{Numbered}
use Rattle.larch_term.specs.Tree.{Tree}
use Rattle.larch_term.specs.Truth.{truth}
use Rattle.larch_term.specs.declared.statement.Statement.{Statement}
use Rattle.larch_term.specs.declared.statement.Theory.{Theory}
use Rattle.larch_base_meaning.specs.Steps.{after}

-- A level is proved, and the one below is the current one again: a line says that the upper one's first goal is true,
-- in the box by which that was entered; and lines that say what there is to say of the lower one make it ready.
pub record Rises (t : Theory) (s : Statement) (store : List Numbered) (d : Draft) (p : Proof)
    (below : List defined.Level) (parent level : defined.Level) (line : ℕ) : Type 0 where
  pub top : Kept
  pub on : Kept
  pub others : List Kept
  pub counts : Counts d p
  pub undone : AreOpen d p
  pub level_is : top.level ≡ level
  pub current : IsKept d.current on
  pub parent_is : on.level ≡ parent
  pub stored : IsStored store d.current
  pub ready : (b : Builder) → Says b on → IsReady store b d.current
  pub under : AreBelow store (d.current ∷ below_in d) p.constants (parent ∷ below) (on ∷ others)
  pub earlier : Builder
  pub before : HoldsLevels t s earlier p.constants (level ∷ parent ∷ below) (top ∷ on ∷ others)
  pub leaving : Leaving t s d.builder top.book.entrance (on ∷ others)
  pub says : HasEquation d.builder line top.book.first truth

-- so it was entered for a subgoal, in a box if it has one
pub record RisesForSubgoal (t : Theory) (s : Statement) (store : List Numbered) (d : Draft) (p : Proof)
    (below : List defined.Level) (parent level : defined.Level) (entrance : Option OpenBox) (line : ℕ) : Type 0 where
  pub rises : Rises t s store d p below parent level line
  pub purpose : rises.top.level.purpose ≡ defined.OfSubgoal
  pub entrance_is : boxes_with rises.top.book.entrance ≡ box_list entrance

-- or for a formula that a command proves
pub record RisesForFormula (t : Theory) (s : Statement) (store : List Numbered) (d : Draft) (p : Proof)
    (below : List defined.Level) (parent level : defined.Level) (formula : Tree) (line : ℕ) : Type 0 where
  pub rises : Rises t s store d p below parent level line
  pub purpose : rises.top.level.purpose ≡ defined.OfProof formula

-- the proof where its lowest level is proved
abbrev pub proved_by : defined.Level → Proof → Proof
proved_by level p = record p { current = record level { remaining = [] }; below = []; is_proved = true }

-- what it comes to that a formula is added to the level below
abbrev pub derived_below : Tree → defined.Level → List defined.Level → Proof → Result Proof Code
derived_below f parent below p =
    after (defined.derive (holds f) (record p { current = parent; below = below }))
    (if_settled (λ q. rise below q.current q))

-- what runs on a level was planned so, and so many of its subgoals were left
abbrev pub IsRunning : Planned → ℕ → Option RunningHere → Type 0
IsRunning planned place None = ⊥
IsRunning planned place (Some r) = (r.planned.value ≡ planned) × (place ≡ length r.left)

-- A subgoal was left so, and the method that runs on the current level isn't done with it yet.
pub record Follows (t : Theory) (s : Statement) (store : List Numbered) (d : Draft) (p : Proof)
    (below : List defined.Level) (parent : defined.Level) (method : Method) (left : Leave) : Type 0 where
  pub on : Kept
  pub others : List Kept
  pub running : Running
  pub counts : Counts d p
  pub undone : AreOpen d p
  pub current : IsKept d.current on
  pub parent_is : on.level ≡ parent
  pub runs : on.book.running ≡ Some running
  pub method_is : running.method ≡ method_of method
  pub stored : IsStored store d.current
  pub under : AreBelow store (d.current ∷ below_in d) p.constants (parent ∷ below) (on ∷ others)
  pub held : HoldsLevels t s d.builder p.constants (parent ∷ below) (on ∷ others)
  pub left_so : HasLeft d.builder running.method running.now (left_of left)

-- and this subgoal is the next one
pub record FollowsWith (t : Theory) (s : Statement) (store : List Numbered) (d : Draft) (p : Proof)
    (below : List defined.Level) (parent : defined.Level) (method : Method) (subgoal : Subgoal) (left : Leave)
    : Type 0 where
  pub follows : Follows t s store d p below parent method left
  pub next : planned.Subgoal
  pub waiting : List planned.Subgoal
  pub remaining : parent.remaining ≡ next ∷ waiting
  pub subgoal_is : subgoal ≡ subgoal_of next

-- or none is left
pub record EndsWith (t : Theory) (s : Statement) (store : List Numbered) (d : Draft) (p : Proof)
    (below : List defined.Level) (parent : defined.Level) (method : Method) (left : Leave) : Type 0 where
  pub follows : Follows t s store d p below parent method left
  pub remaining : parent.remaining ≡ []

-- A method runs on the current level, and its open subgoal isn't entered yet; that one and those that wait behind it
-- are these.
pub record HasSubgoal (t : Theory) (s : Statement) (store : List Numbered) (d : Draft) (p : Proof)
    (below : List defined.Level) (parent : defined.Level) (method : Method) (subgoal : Subgoal)
    (gs : List planned.Subgoal) : Type 0 where
  pub on : Kept
  pub others : List Kept
  pub running : Running
  pub waiting : List planned.Subgoal
  pub counts : Counts d p
  pub undone : AreOpen d p
  pub current : IsKept d.current on
  pub parent_is : on.level ≡ record parent { remaining = waiting }
  pub runs : on.book.running ≡ Some running
  pub method_is : running.method ≡ method_of method
  pub subgoal_is : subgoal ≡ subgoal_of running.now
  pub order : gs ≡ running.now ∷ waiting
  pub stored : IsStored store d.current
  pub under : AreBelow store (d.current ∷ below_in d) p.constants (record parent { remaining = waiting } ∷ below)
      (on ∷ others)
  pub held : HoldsLevels t s d.builder p.constants (record parent { remaining = waiting } ∷ below) (on ∷ others)

-- A method was planned for the goal of the current level, and has neither subgoals nor a box for them.
pub record HasNoSubgoals (t : Theory) (s : Statement) (store : List Numbered) (d : Draft) (p : Proof) (k : Kept)
    (ks : List Kept) (method : Method) : Type 0 where
  pub stands : Stands t s store d p k ks
  pub running : Running
  pub method_is : running.method ≡ method_of method
  pub planned : IsPlanned d.builder d.builder k.level.goal running
  pub shared : running.shared ≡ []
  pub subgoals : running.plan.subgoals ≡ []

-- the second method is the first one with one subgoal more that was left
pub record IsNotedIn (left : Leave) (r q : RunningHere) : Type 0 where
  pub planned : q.planned ≡ r.planned
  pub shared : q.shared ≡ r.shared
  pub left_is : q.left ≡ r.left ++ left ∷ []

abbrev pub IsNoted : Leave → Option RunningHere → Option RunningHere → Type 0
IsNoted left None new = ⊥
IsNoted left (Some r) None = ⊥
IsNoted left (Some r) (Some q) = IsNotedIn left r q

-- the box by which a level was entered
abbrev pub entrance_of : Book → List SupposingBox
entrance_of k = k.entrance

-- so it is of some proof over a theory with a precedence and a limit
abbrev pub IsSomeStanding : Theory → Statement → List Ranked → ℕ → List Numbered → Draft → Type 0
IsSomeStanding t s ranks limit store d =
    (p : Proof) × ((k : Kept) × ((ks : List Kept) × (IsOver t ranks limit p × Stands t s store d p k ks)))

abbrev pub IsSomeShown : Theory → Statement → List Ranked → ℕ → List Numbered → Draft → ℕ → Type 0
IsSomeShown t s ranks limit store d line =
    (p : Proof) × ((below : List defined.Level) × ((level : defined.Level)
    × (IsOver t ranks limit p × IsShown t s store d p below level line)))

abbrev pub IsSomeSubgoal : Theory → Statement → List Ranked → ℕ → List Numbered → Draft → Option OpenBox → ℕ → Type 0
IsSomeSubgoal t s ranks limit store d entrance line =
    (p : Proof) × ((below : List defined.Level) × ((parent : defined.Level) × ((level : defined.Level)
    × (IsOver t ranks limit p × RisesForSubgoal t s store d p below parent level entrance line))))

abbrev pub IsSomeFormula : Theory → Statement → List Ranked → ℕ → List Numbered → Draft → Tree → ℕ → Type 0
IsSomeFormula t s ranks limit store d formula line =
    (p : Proof) × ((below : List defined.Level) × ((parent : defined.Level) × ((level : defined.Level)
    × (IsOver t ranks limit p × RisesForFormula t s store d p below parent level formula line))))

abbrev pub IsSomeNext : Theory → Statement → List Ranked → ℕ → List Numbered → Draft → Method → Subgoal → Leave → Type 0
IsSomeNext t s ranks limit store d method subgoal left =
    (p : Proof) × ((below : List defined.Level) × ((parent : defined.Level)
    × (IsOver t ranks limit p × FollowsWith t s store d p below parent method subgoal left)))

abbrev pub IsSomeLeft : Theory → Statement → List Ranked → ℕ → List Numbered → Draft → Method → Leave → Type 0
IsSomeLeft t s ranks limit store d method left =
    (p : Proof) × ((below : List defined.Level) × ((parent : defined.Level)
    × (IsOver t ranks limit p × EndsWith t s store d p below parent method left)))

abbrev pub IsSomeOpening : Theory → Statement → List Ranked → ℕ → List Numbered → Draft → Method → Subgoal → Type 0
IsSomeOpening t s ranks limit store d method subgoal =
    (p : Proof) × ((below : List defined.Level) × ((parent : defined.Level) × ((gs : List planned.Subgoal)
    × (IsOver t ranks limit p × HasSubgoal t s store d p below parent method subgoal gs))))

abbrev pub IsSomeLed : Theory → Statement → List Ranked → ℕ → List Numbered → Draft → Option ℕ → Type 0
IsSomeLed t s ranks limit store d shown =
    (p : Proof) × ((answer : Result Proof Code) × (IsOver t ranks limit p × Leads t s store d p shown answer))

abbrev pub IsSomeEnd : Theory → Statement → List Ranked → ℕ → List Numbered → Draft → Method → Type 0
IsSomeEnd t s ranks limit store d method =
    (p : Proof) × ((k : Kept) × ((ks : List Kept)
    × (IsOver t ranks limit p × HasNoSubgoals t s store d p k ks method)))

abbrev pub IsSomeLast : Theory → Statement → Draft → ℕ → Type 0
IsSomeLast t s d line =
    (store : List Numbered) × ((p : Proof) × ((level : defined.Level)
    × IsShownIn entrance_of t s store d p [] level line))

-- ---- how long it can go on

-- how many subgoals of a level's method aren't left
abbrev pub unleft : Option RunningHere → ℕ
unleft None = 0
unleft (Some r) = length r.planned.value.plan.subgoals - length r.left

-- twice those of levels, and the number of the levels
abbrev pub to_settle : List Level → ℕ
to_settle levels = sum_by (λ (level : Level). 1 + 2 * unleft level.running) levels
