-- The open subgoal of a method was left, and that is noted: the method runs on with the next one.
use Rattle.std.specs.Prelude.{◌≡◌, List, [], ◌∷◌, ◌++◌, map, All, Contains, IfSome, Option, None, Some, drop, refl}
use Rattle.std.proofs.Common.{ap, ap₂, subst, sym, ◌∙◌}
use Rattle.std.proofs.lemmas.List.{map-append}
use Rattle.std.proofs.lemmas.List.Elements.{All-cons, All-head, All-tail}
use Rattle.larch_prove_draft.specs.ProveBoxesBoxLists.{box_list}
use Rattle.larch_prove_draft.specs.ProveBoxesLeave.{left_of}
use Rattle.larch_prove_draft.specs.ProveBoxesLeaveLeave.{Leave}
use Rattle.larch_prove_draft.specs.Draft.{ArePlannedAmong, below_in}
use Rattle.larch_prove_draft.specs.declared.draft.Draft.{Draft}
use Rattle.larch_prove_draft.proofs.ProveInvariantLevelConstants.{levels_follow}
use Rattle.larch_prove_draft.specs.ProveInvariantBook.{Done, Kept, Running, levels_of, next_running, with_running}
use Rattle.larch_prove_draft.specs.ProveInvariantHolding.{HoldsLevels}
use Rattle.larch_prove_draft.specs.ProveLevelsLevel.{IsKept, IsLevel, IsStored, RunsLikeAny}
use Rattle.larch_prove_draft.specs.ProveLevelsLevelLevel.{Level}
use Rattle.larch_prove_draft.specs.ProveLevelsLevelRunning.{Running as RunningHere}
use Rattle.larch_prove_draft.specs.ProveMeaningLevels as defined
use Rattle.larch_prove_draft.specs.ProveMeaningLevels.{Proof, all_constants}
use Rattle.larch_prove_draft.specs.ProveMeaningPlans as planned
use Rattle.larch_prove_draft.specs.ProvePlansPlanning.{method_of}
use Rattle.larch_prove_draft.specs.ProvePlansSubgoalsMethod.{Method}
use Rattle.larch_prove_draft.specs.ProvePlansSubgoalsSubgoal.{Subgoal}
use Rattle.larch_prove_settling.specs.Rising.{FollowsWith, HasSubgoal, IsNoted}
use Rattle.larch_store.specs.Numbered.{Numbered}
use Rattle.larch_term.specs.Operator.{PlainOperator}
use Rattle.larch_term.specs.declared.statement.Statement.{Statement}
use Rattle.larch_term.specs.declared.statement.Theory.{Theory}

-- a level is the same whatever method runs on it
pub level_running : (l : Level) (o : Option RunningHere) (k : Kept) (q : Option Running) (ss : List planned.Subgoal)
    → IsLevel l k → IsLevel (record l { running = o }) (record {
      level = record k.level { remaining = ss };
      book = record k.book { running = q };
    })
level_running l o k q ss w = record {
  purpose = w.purpose;
  facts = w.facts;
  lines = w.lines;
  absurd = w.absurd;
  goal = w.goal;
  way = w.way;
  first = w.first;
  entrance = w.entrance;
  extras = w.extras;
  making = w.making;
}

pub stored_running : (store : List Numbered) (l : Level) (o : Option RunningHere) → IsStored store l
    → IsStored store (record l { running = o })
stored_running store l o w = record { goal = w.goal; first = w.first; formula = w.formula }

noted_so : (left : Leave) (o n : Option RunningHere) (r : Running) (next : planned.Subgoal)
    (before waiting : List planned.Subgoal) → IsNoted left o n → RunsLikeAny o (Some r) before
    → RunsLikeAny n (Some (next_running (left_of left) next r)) waiting
noted_so left None n r next before waiting i w = absurd i
noted_so left (Some o) None r next before waiting i w = absurd i
noted_so left (Some o) (Some n) r next before waiting i w = record {
  method = w.method ∙ ap (λ p. method_of p.value.method) (sym i.planned);
  plan = w.plan ∙ ap (λ p. p.value.plan) (sym i.planned);
  shared = w.shared ∙ ap box_list (sym i.shared);
  left = map-append (λ (d : Done). d.left) r.done (record { subgoal = r.now; left = left_of left } ∷ [])
      ∙ ap (λ ls. ls ++ left_of left ∷ []) w.left
      ∙ sym (ap (map left_of) i.left_is ∙ map-append left_of o.left (left ∷ []));
}

-- the level below with the next subgoal of its method open
pub noted_kept : (left : Leave) (l : Level) (n : Option RunningHere) (k : Kept) (r : Running) (next : planned.Subgoal)
    (waiting : List planned.Subgoal) → k.book.running ≡ Some r → IsNoted left l.running n → IsKept l k
    → IsKept (record l { running = n }) (with_running (next_running (left_of left) next r) waiting k)
noted_kept left l n k r next waiting e i w = (
  level_running l n k (Some (next_running (left_of left) next r)) waiting w.0,
  noted_so left l.running n r next k.level.remaining waiting i
      (subst (λ o. RunsLikeAny l.running o k.level.remaining) e w.1),
)

-- what its plan makes is among the block's constants
pub plan_among : (cs : List PlainOperator) (k : Kept) (ks : List Kept) (r : Running) → k.book.running ≡ Some r
    → ArePlannedAmong cs (k ∷ ks) → All (Contains cs) (all_constants r.plan)
plan_among cs k ks r e w =
    subst (λ o. IfSome o (λ (x : Running). All (Contains cs) (all_constants x.plan))) e
    (All-head (λ (j : Kept). IfSome j.book.running (λ x. All (Contains cs) (all_constants x.plan))) k ks w)

module _ (t : Theory) (s : Statement) (store : List Numbered) (d : Draft) (p : Proof) (below : List defined.Level)
    (parent : defined.Level) (method : Method) (subgoal : Subgoal) (left : Leave)
    (w : FollowsWith t s store d p below parent method subgoal left) where
  -- the level below as it is then
  abbrev pub goes_on : Kept
  goes_on = with_running (next_running (left_of left) w.next w.follows.running) w.waiting w.follows.on

  goes_on_so : levels_of (goes_on ∷ w.follows.others) ≡ record parent { remaining = w.waiting } ∷ below
  goes_on_so =
      ap₂ (λ (l : defined.Level) (ls : List defined.Level). record l { remaining = w.waiting } ∷ ls)
      w.follows.parent_is (ap (drop 1) w.follows.under.levels_are)

  -- and the next subgoal is the open one
  pub next_noted : (n : Option RunningHere) → IsNoted left d.current.running n
      → HasSubgoal t s store (record d { current = record d.current { running = n } }) p below parent method subgoal
      parent.remaining
  next_noted n i =
      let f = w.follows in
      let kept = noted_kept left d.current n f.on f.running w.next w.waiting f.runs i f.current in
      let stored = stored_running store d.current n f.stored in
      record {
        on = goes_on;
        others = f.others;
        running = next_running (left_of left) w.next f.running;
        waiting = w.waiting;
        counts = f.counts;
        undone = f.undone;
        current = kept;
        parent_is = ap (λ (l : defined.Level). record l { remaining = w.waiting }) f.parent_is;
        runs = refl;
        method_is = f.method_is;
        subgoal_is = w.subgoal_is;
        order = w.remaining;
        stored = stored;
        under = record {
          kept = (kept, f.under.kept.1);
          stored = All-cons (IsStored store) (record d.current { running = n }) (below_in d) stored
              (All-tail (IsStored store) d.current (below_in d) f.under.stored);
          levels_are = goes_on_so;
          planned = All-cons (λ (k : Kept). IfSome k.book.running (λ r. All (Contains p.constants)
              (all_constants r.plan))) goes_on f.others
              (plan_among p.constants f.on f.others f.running f.runs f.under.planned)
              (All-tail (λ (k : Kept). IfSome k.book.running (λ r. All (Contains p.constants)
              (all_constants r.plan))) f.on f.others f.under.planned);
        };
        held = subst (λ ls. HoldsLevels t s d.builder p.constants ls (goes_on ∷ f.others)) goes_on_so
            (levels_follow t s d.builder p.constants (parent ∷ below) f.on f.others f.running (left_of left) w.next
            w.waiting f.runs (ap (λ (l : defined.Level). l.remaining) f.parent_is ∙ w.remaining) f.left_so f.held);
      }
