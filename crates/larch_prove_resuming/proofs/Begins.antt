-- A method that was planned for the current goal begins there.
use Rattle.std.specs.List.{slice_get}
use Rattle.std.specs.Prelude.{◌≡◌, List, [], ◌∷◌, ◌++◌, map, All, Contains, IfSome, Option, None, Some, Ok, refl}
use Rattle.std.proofs.Common.{ap, ap₂, subst, sym, ◌∙◌}
use Rattle.std.proofs.lemmas.List.Elements.{All-cons, All-weaker}
use Rattle.larch_base.proofs.Lists.{all_from}
use Rattle.larch_base.proofs.Members.{contains_left, contains_right}
use Rattle.larch_calculus.specs.Theories.{AreNew}
use Rattle.larch_prove_work.proofs.DeriveGrowth.{grows_same}
use Rattle.larch_prove_work.specs.DeriveBuilderBuilder.{Builder}
use Rattle.larch_prove_work.specs.DeriveOpen_boxOpenBox.{OpenBox}
use Rattle.larch_prove_work.specs.ProveBoxesBoxLists.{box_list, boxes_with}
use Rattle.larch_prove_work.specs.ProveBoxesLeave.{left_of}
use Rattle.larch_prove_work.specs.ProveDraftDraft.{AreBelow, ArePlannedAmong, Stands, below_in}
use Rattle.larch_prove_work.specs.ProveDraftDraftDraft.{Draft}
use Rattle.larch_prove_work.proofs.ProveInvariantLevelConstants.{levels_begun, levels_more}
use Rattle.larch_prove_work.proofs.ProveInvariantOwn.{plan_parts_new, with_lemmas_new}
use Rattle.larch_prove_work.proofs.ProveInvariantPlanned.{made_worded, planned_for}
use Rattle.larch_prove_work.specs.ProveInvariantBook.{Kept, Running, SupposingBox, levels_of, with_running}
use Rattle.larch_prove_work.specs.ProveInvariantHolding.{HoldsLevels, HoldsProof, IsKnownFor}
use Rattle.larch_prove_work.specs.ProveInvariantHolding.{IsPlanned, Through, shape_of}
use Rattle.larch_prove_work.specs.ProveInvariantHolding.{shared_shapes, theory_for}
use Rattle.larch_prove_work.specs.ProveLevelsLevel.{IsKept, IsStored}
use Rattle.larch_prove_work.specs.ProveLevelsLevelLevel.{Level}
use Rattle.larch_prove_work.specs.ProveLevelsLevelPlanned.{Planned}
use Rattle.larch_prove_work.specs.ProveLevelsLevelRunning.{Running as RunningHere}
use Rattle.larch_prove_meaning.proofs.NewConstants.{plan_constants}
use Rattle.larch_prove_meaning.specs.Levels as defined
use Rattle.larch_prove_meaning.specs.Levels.{Proof, all_constants, begun, opened_from, rise, with_constants}
use Rattle.larch_prove_meaning.specs.Plans as plans
use Rattle.larch_prove_meaning.specs.Plans.{Plan, plan, shared_subgoal}
use Rattle.larch_prove_meaning.specs.Steps.{setting_of}
use Rattle.larch_prove_meaning.specs.WellSorted.{IsWellSortedProof}
use Rattle.larch_prove_plans.specs.Planning.{method_of, plan_of, subgoal_of}
use Rattle.larch_prove_plans.specs.declared.subgoals.Method.{Method}
use Rattle.larch_prove_plans.specs.declared.subgoals.Plan as stated
use Rattle.larch_prove_plans.specs.declared.subgoals.Subgoal.{Subgoal}
use Rattle.larch_prove_resuming.proofs.Plans.{first_planned, no_shared, none_first, none_planned, one_first}
use Rattle.larch_prove_resuming.specs.Resuming.{StandsBefore}
use Rattle.larch_prove_work.proofs.ProveSettlingNoting.{level_running, stored_running}
use Rattle.larch_prove_work.specs.ProveSettlingRising.{HasNoSubgoals, HasSubgoal}
use Rattle.larch_store.specs.Numbered.{Numbered}
use Rattle.larch_term.specs.Operator.{PlainOperator}
use Rattle.larch_term.specs.declared.statement.Statement.{Statement}
use Rattle.larch_term.specs.declared.statement.Theory.{Theory}

-- what plans make is still among constants when there are more of them
some_among : (cs ds : List PlainOperator) (o : Option Running)
    → IfSome o (λ r. All (Contains cs) (all_constants r.plan))
    → IfSome o (λ r. All (Contains (cs ++ ds)) (all_constants r.plan))
some_among cs ds None h = tt
some_among cs ds (Some r) h =
    All-weaker (Contains cs) (Contains (cs ++ ds)) (λ f i. contains_left cs ds f i) (all_constants r.plan) h

planned_among : (cs ds : List PlainOperator) (ks : List Kept) → ArePlannedAmong cs ks → ArePlannedAmong (cs ++ ds) ks
planned_among cs ds ks h =
    All-weaker (λ (k : Kept). IfSome k.book.running (λ r. All (Contains cs) (all_constants r.plan)))
    (λ (k : Kept). IfSome k.book.running (λ r. All (Contains (cs ++ ds)) (all_constants r.plan)))
    (λ k i. some_among cs ds k.book.running i) ks h

below_more : (store : List Numbered) (ls : List Level) (cs ds : List PlainOperator) (below : List defined.Level)
    (ks : List Kept) → AreBelow store ls cs below ks → AreBelow store ls (cs ++ ds) below ks
below_more store ls cs ds below ks w = record {
  kept = w.kept;
  stored = w.stored;
  levels_are = w.levels_are;
  planned = planned_among cs ds ks w.planned;
}

without_lemmas_new : (p : Proof) (cs : List PlainOperator) → AreNew (theory_for p) cs → AreNew p.theory cs
without_lemmas_new p cs h = record { names = h.names; different = h.different }

-- the box that a plan's subgoals share, opened
abbrev pub OpensBox : Builder → Builder → plans.Method → Plan → Option OpenBox → Type 0
OpensBox b c chosen made shared = (xs : List SupposingBox) × ((boxes_with xs ≡ box_list shared)
    × ((map shape_of xs ≡ shared_shapes chosen made) × Through b xs c))

-- so it is for each proof that the builder holds
abbrev pub SharesBox : Builder → Builder → Method → stated.Plan → Option OpenBox → Type 0
SharesBox b c method x shared = (s : Statement) (p : Proof) (k : Kept) (ks : List Kept) (chosen : plans.Method)
    (made : Plan) → HoldsProof s b p (k ∷ ks) → IsWellSortedProof p → chosen ≡ method_of method
    → IsKnownFor b chosen → plan (setting_of p) p.current.goal chosen ≡ Ok made → x ≡ plan_of made
    → OpensBox b c chosen made shared

module _ (t : Theory) (s : Statement) (store : List Numbered) (d : Draft) (p : Proof) (k : Kept) (ks : List Kept)
    (planned : Planned) (made : Plan) (w : StandsBefore t s store d p k ks planned made) where
  -- the method as it runs with its first subgoal open
  abbrev run_with : List SupposingBox → plans.Subgoal → Running
  run_with xs g = record {
    method = method_of planned.method;
    setting = setting_of p;
    plan = made;
    shared = xs;
    done = [];
    now = g;
  }

  pub proof_before : HoldsProof s d.builder p (k ∷ ks)
  proof_before = record {
    levels = subst (λ u. HoldsLevels u s d.builder p.constants (p.current ∷ p.below) (k ∷ ks)) (sym w.whole)
        w.stands.holds;
    idle = w.stands.idle;
  }

  planned_there : (c : Builder) (xs : List SupposingBox) (g : plans.Subgoal)
      → map shape_of xs ≡ shared_shapes (method_of planned.method) made → Through d.builder xs c
      → IsPlanned d.builder c k.level.goal (run_with xs g)
  planned_there c xs g e m =
      planned_for s d.builder c p k ks (run_with xs g) proof_before w.sorted refl w.planned_for.plans w.known e m

  levels_with : HoldsLevels t s d.builder (p.constants ++ all_constants made) (p.current ∷ p.below) (k ∷ ks)
  levels_with =
      let held = proof_before in
      let new = plan_parts_new p (method_of planned.method) made
      (without_lemmas_new p p.constants held.levels.constants.new) w.planned_for.plans in
      levels_more t s d.builder p.constants (all_constants made) (p.current ∷ p.below) (k ∷ ks)
      (subst (λ u. AreNew u (p.constants ++ all_constants made)) w.whole (with_lemmas_new p _ new))
      (plan_constants (setting_of p) p.current.goal (method_of planned.method) made w.planned_for.plans)
      (made_worded s d.builder p k ks (method_of planned.method) made held w.sorted w.known w.planned_for.plans)
      w.stands.holds

  -- the same proof with the constants of the plan
  pub stands_with : Stands t s store d (with_constants (all_constants made) p) k ks
  stands_with = record {
    counts = w.stands.counts;
    undone = w.stands.undone;
    current = w.stands.current;
    level_is = w.stands.level_is;
    idle = w.stands.idle;
    ready = w.stands.ready;
    stored = w.stands.stored;
    below = below_more store (below_in d) p.constants (all_constants made) p.below ks w.stands.below;
    holds = levels_with;
  }

  -- a method without subgoals
  pub none_to_open : (method : Method) → method ≡ planned.method → made.subgoals ≡ []
      → HasNoSubgoals t s store d (with_constants (all_constants made) p) k ks method
  none_to_open method same e = record {
    stands = stands_with;
    running = run_with [] (shared_subgoal [] p.current.goal);
    method_is = ap method_of (sym same);
    planned = planned_there d.builder [] (shared_subgoal [] p.current.goal)
        (sym (no_shared (setting_of p) p.current.goal (method_of planned.method) made w.planned_for.plans e))
        (grows_same d.builder d.builder refl);
    shared = refl;
    subgoals = e;
  }

  module _ (c : Builder) (xs : List SupposingBox) (n : RunningHere) (g : plans.Subgoal)
      (rest : List plans.Subgoal) (subgoal : Subgoal)
      (shapes : map shape_of xs ≡ shared_shapes (method_of planned.method) made) (m : Through d.builder xs c)
      (same : n.planned.value ≡ planned) (shared : boxes_with xs ≡ box_list n.shared) (left : n.left ≡ [])
      (order : made.subgoals ≡ g ∷ rest) (first : subgoal ≡ subgoal_of g) (method : Method)
      (chosen : method ≡ planned.method) where
    abbrev on_it : Kept
    on_it = with_running (run_with xs g) rest k

    abbrev draft_then : Draft
    draft_then = record d { builder = c; current = record d.current { running = Some n } }

    kept_then : IsKept draft_then.current on_it
    kept_then = (
      level_running d.current (Some n) k (Some (run_with xs g)) rest w.stands.current.0,
      record {
        method = ap (λ (x : Planned). method_of x.method) (sym same);
        plan = sym w.planned_for.same ∙ ap (λ (x : Planned). x.plan) (sym same);
        shared = shared;
        left = ap (map left_of) (sym left);
      },
    )

    levels_then : levels_of (on_it ∷ ks) ≡ record p.current { remaining = rest } ∷ p.below
    levels_then =
        ap₂ (λ (l : defined.Level) (ls : List defined.Level). record l { remaining = rest } ∷ ls) w.stands.level_is
        w.stands.below.levels_are

    pub first_to_open : HasSubgoal t s store draft_then (with_constants (all_constants made) p) p.below p.current
        method subgoal made.subgoals
    first_to_open = record {
      on = on_it;
      others = ks;
      running = run_with xs g;
      waiting = rest;
      counts = w.stands.counts;
      undone = w.stands.undone;
      current = kept_then;
      parent_is = ap (λ (l : defined.Level). record l { remaining = rest }) w.stands.level_is;
      runs = refl;
      method_is = ap method_of (sym chosen);
      subgoal_is = first;
      order = order;
      stored = stored_running store d.current (Some n) w.stands.stored;
      under = record {
        kept = (kept_then, w.stands.below.kept);
        stored = All-cons (IsStored store) draft_then.current (below_in d)
            (stored_running store d.current (Some n) w.stands.stored) w.stands.below.stored;
        levels_are = levels_then;
        planned = All-cons (λ (j : Kept). IfSome j.book.running
            (λ r. All (Contains (p.constants ++ all_constants made)) (all_constants r.plan))) on_it ks
            (all_from (Contains (p.constants ++ all_constants made)) (all_constants made)
            (λ f i. contains_right p.constants (all_constants made) f i))
            (planned_among p.constants (all_constants made) ks w.stands.below.planned);
      };
      held = subst (λ ls. HoldsLevels t s c (p.constants ++ all_constants made) ls (on_it ∷ ks)) levels_then
          (levels_begun t s d.builder c (p.constants ++ all_constants made) (p.current ∷ p.below) k ks
          (run_with xs g) rest w.stands.idle m (planned_there c xs g shapes m) refl order
          (all_from (Contains (p.constants ++ all_constants made)) made.constants
          (λ f i. contains_right p.constants (all_constants made) f (contains_left made.constants _ f i)))
          levels_with);
    }

  -- none of the code's plan is there
  pub none_made : (subgoals : List Subgoal) → subgoals ≡ planned.plan.subgoals → slice_get subgoals 0 ≡ None
      → made.subgoals ≡ []
  none_made subgoals are none =
      none_planned planned.plan made w.planned_for.same (sym are ∙ none_first subgoals none)

  -- the box that the subgoals share is opened, and the first of them is open
  pub opens_with : (c : Builder) (shared : Option OpenBox) (box_method : Method) (box_plan : stated.Plan)
      → box_method ≡ planned.method → box_plan ≡ planned.plan → SharesBox d.builder c box_method box_plan shared
      → (n : RunningHere) → n.planned.value ≡ planned → n.shared ≡ shared → n.left ≡ []
      → (method : Method) → method ≡ planned.method
      → (subgoals : List Subgoal) → subgoals ≡ planned.plan.subgoals
      → (subgoal : Subgoal) → slice_get subgoals 0 ≡ Some subgoal
      → HasSubgoal t s store (record d { builder = c; current = record d.current { running = Some n } })
      (with_constants (all_constants made) p) p.below p.current method subgoal made.subgoals
  opens_with c shared box_method box_plan bm bp opens n same box left method chosen subgoals are subgoal got =
      let o = one_first subgoals subgoal got in
      let f = first_planned planned.plan made subgoal o.0 w.planned_for.same (sym are ∙ o.1) in
      let opened = opens s p k ks (method_of planned.method) made proof_before w.sorted
      (ap method_of (sym bm)) w.known w.planned_for.plans (bp ∙ w.planned_for.same) in
      first_to_open c opened.0 n f.one f.rest subgoal opened.1.1.0 opened.1.1.1 same
      (opened.1.0 ∙ ap box_list (sym box)) left f.order f.same method chosen

-- ---- what begins

-- a method without subgoals ends at once
pub begins_done : (made : Plan) (p : Proof) → made.subgoals ≡ []
    → begun made p ≡ rise p.below p.current (with_constants (all_constants made) p)
begins_done made p e =
    ap (λ gs. opened_from (λ q. rise p.below p.current q) p.current p.below gs
    (with_constants (all_constants made) p)) e
