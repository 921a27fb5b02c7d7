-- A subgoal is proved: which method it is of, its place among the subgoals, and that it is left.
use Rattle.std.specs.Prelude.{◌≡◌, ◌+◌, ◌-◌, ◌<◌, ℕ, suc, List, [], ◌∷◌, ◌++◌, map, length}
use Rattle.std.specs.Prelude.{IsSome, Option, None, Some, refl}
use Rattle.std.specs.List.{slice_get}
use Rattle.std.proofs.Common.{add-one, ap, ap₂, arith, subst, sym, ◌∙◌}
use Rattle.std.proofs.lemmas.List.{length-append, length-map, map-append}
use Rattle.larch_base.proofs.Options.{some_inj}
use Rattle.larch_derive.specs.declared.builder.Builder.{Builder}
use Rattle.larch_prove_draft.specs.ProveBoxesLeave.{left_of}
use Rattle.larch_prove_draft.specs.ProveBoxesSaying.{ShowsSubgoal}
use Rattle.larch_prove_draft.specs.ProveBoxesLeaveLeave.{Leave}
use Rattle.larch_prove_draft.specs.declared.draft.Draft.{Draft}
use Rattle.larch_prove_draft.proofs.ProveInvariantHeld.{running_is}
use Rattle.larch_prove_draft.proofs.ProveInvariantLevelConstants.{levels_left}
use Rattle.larch_prove_draft.specs.ProveInvariantBook.{Book, Done, Kept, Running}
use Rattle.larch_prove_draft.specs.ProveInvariantHolding.{Enters, EntersSubgoal, HasLeft, HoldsLevels, IsForSubgoal}
use Rattle.larch_prove_draft.specs.ProveInvariantLeaving.{Leaving}
use Rattle.larch_prove_draft.specs.ProveLevelsLevel.{RunsLike, RunsLikeAny}
use Rattle.larch_prove_draft.specs.ProveLevelsLevelPlanned.{Planned}
use Rattle.larch_prove_draft.specs.ProveLevelsLevelRunning.{Running as RunningHere}
use Rattle.larch_prove_draft.specs.ProveMeaningLevels as defined
use Rattle.larch_prove_draft.specs.ProveMeaningLevels.{Proof}
use Rattle.larch_prove_draft.specs.ProveMeaningPlans as planned
use Rattle.larch_prove_draft.specs.ProvePlansPlanning.{method_of, subgoal_of}
use Rattle.larch_prove_draft.specs.ProvePlansSubgoalsMethod.{Method}
use Rattle.larch_prove_draft.specs.ProvePlansSubgoalsSubgoal.{Subgoal}
use Rattle.larch_prove_settling.specs.Rising.{EndsWith, Follows, FollowsWith, IsRunning, Rises, unleft}
use Rattle.larch_store.specs.Numbered.{Numbered}
use Rattle.larch_term.specs.declared.statement.Statement.{Statement}
use Rattle.larch_term.specs.declared.statement.Theory.{Theory}

for_subgoal : (o : Option Running) (k : Book) → IsForSubgoal o k → (r : Running) × ((o ≡ Some r) × EntersSubgoal r k)
for_subgoal None k h = absurd h
for_subgoal (Some r) k h = (r, (refl, h))

runs_here : (o : Option RunningHere) (q : Option Running) (r : Running) (waiting : List planned.Subgoal) → q ≡ Some r
    → RunsLikeAny o q waiting → (h : RunningHere) × ((o ≡ Some h) × RunsLike h r waiting)
runs_here None q r waiting e w = absurd (subst (λ x. RunsLikeAny None x waiting) e w)
runs_here (Some h) q r waiting e w = (h, (refl, subst (λ x. RunsLikeAny (Some h) x waiting) e w))

pub runs_some : {X : Type 0} (o : Option X) (x : X) → o ≡ Some x → IsSome o
runs_some o x e = subst IsSome (sym e) refl

-- ---- places

at_behind : {X : Type 0} (xs zs : List X) (y : X) → slice_get (xs ++ y ∷ zs) (length xs) ≡ Some y
at_behind [] zs y = refl
at_behind (x ∷ xs) zs y = at_behind xs zs y

next_behind : {X : Type 0} (xs zs : List X) (y : X) → slice_get (xs ++ y ∷ zs) (suc (length xs)) ≡ slice_get zs 0
next_behind [] zs y = refl
next_behind (x ∷ xs) zs y = next_behind xs zs y

-- the next subgoal of a method, if there is one
pub first_mapped : (rs : List planned.Subgoal) (g : Subgoal) → slice_get (map subgoal_of rs) 0 ≡ Some g
    → (next : planned.Subgoal) × ((waiting : List planned.Subgoal) × ((rs ≡ next ∷ waiting) × (g ≡ subgoal_of next)))
first_mapped [] g e = absurd (cc)
first_mapped (r ∷ rs) g e = (r, (rs, (refl, sym (some_inj e))))

pub none_mapped : (rs : List planned.Subgoal) → slice_get (map subgoal_of rs) 0 ≡ None → rs ≡ []
none_mapped [] e = refl
none_mapped (r ∷ rs) e = absurd (cc)

-- the method that runs below a level for a subgoal: in the proof, and in the code; how many of its subgoals were left
pub record RunsBelow (d : Draft) (on top : Kept) : Type 0 where
  pub running : Running
  pub runs : on.book.running ≡ Some running
  pub enters : EntersSubgoal running top.book
  pub here : RunningHere
  pub is_here : d.current.running ≡ Some here
  pub like : RunsLike here running on.level.remaining
  pub place : length here.left ≡ length running.done
  pub before : List planned.Subgoal
  pub before_long : length before ≡ length running.done
  pub order : running.plan.subgoals ≡ before ++ running.now ∷ on.level.remaining

module _ (t : Theory) (s : Statement) (store : List Numbered) (d : Draft) (p : Proof) (below : List defined.Level)
    (parent level : defined.Level) (line : ℕ) (w : Rises t s store d p below parent level line) where
  pub runs_below : w.top.level.purpose ≡ defined.OfSubgoal → RunsBelow d w.on w.top
  runs_below purpose =
      let entered = w.before.held.1.1.0 in
      let found = for_subgoal w.on.book.running w.top.book
      (subst (λ u. Enters u w.on.book.running w.top.book) purpose entered) in
      let r = found.0 in
      let there = runs_here d.current.running w.on.book.running r w.on.level.remaining found.1.0 w.current.1 in
      let h = there.0 in
      let held = w.before.held.1.0.1.1.1 in
      let runs = running_is held.outside w.before.held.0 w.on r found.1.0 held.running in
      record {
        running = r;
        runs = found.1.0;
        enters = found.1.1;
        here = h;
        is_here = there.1.0;
        like = there.1.1;
        place = sym (length-map h.left left_of) ∙ ap length (sym there.1.1.left)
            ∙ length-map r.done (λ (x : Done). x.left);
        before = map (λ (x : Done). x.subgoal) r.done;
        before_long = length-map r.done (λ (x : Done). x.subgoal);
        order = runs.order;
      }

  module _ (z : RunsBelow d w.on w.top) where
    pub places : z.here.planned.value.plan.subgoals
        ≡ map subgoal_of z.before ++ subgoal_of z.running.now ∷ map subgoal_of w.on.level.remaining
    places =
        sym (ap (λ p. p.subgoals) z.like.plan) ∙ ap (map subgoal_of) z.order
        ∙ map-append subgoal_of z.before (z.running.now ∷ w.on.level.remaining)

    pub left_so_far : length z.here.left ≡ length (map subgoal_of z.before)
    left_so_far = z.place ∙ sym z.before_long ∙ sym (length-map z.before subgoal_of)

    pub now_at : slice_get z.here.planned.value.plan.subgoals (length z.here.left) ≡ Some (subgoal_of z.running.now)
    now_at =
        ap (λ xs. slice_get xs (length z.here.left)) places
        ∙ ap (slice_get (map subgoal_of z.before ++ subgoal_of z.running.now ∷ map subgoal_of w.on.level.remaining))
        left_so_far
        ∙ at_behind (map subgoal_of z.before) (map subgoal_of w.on.level.remaining) (subgoal_of z.running.now)

    pub next_at : slice_get z.here.planned.value.plan.subgoals (suc (length z.here.left))
        ≡ slice_get (map subgoal_of w.on.level.remaining) 0
    next_at =
        ap (λ xs. slice_get xs (suc (length z.here.left))) places
        ∙ ap (λ n. slice_get (map subgoal_of z.before ++ subgoal_of z.running.now ∷ map subgoal_of w.on.level.remaining)
        (suc n)) left_so_far
        ∙ next_behind (map subgoal_of z.before) (map subgoal_of w.on.level.remaining) (subgoal_of z.running.now)

    pub how_many : length z.here.planned.value.plan.subgoals
        ≡ length z.here.left + suc (length w.on.level.remaining)
    how_many =
        ap length places
        ∙ length-append (map subgoal_of z.before) (subgoal_of z.running.now ∷ map subgoal_of w.on.level.remaining)
        ∙ ap₂ (λ n m. n + suc m) (sym left_so_far) (length-map w.on.level.remaining subgoal_of)

    pub shows : ShowsSubgoal t s w.earlier d.builder p.constants (level ∷ parent ∷ below) w.top w.on w.others z.running
        line
    shows = record {
      held = w.before;
      running = z.runs;
      enters = z.enters;
      leaving = w.leaving;
      says = w.says;
    }

    -- the subgoal was left
    pub follows_so : (b : Builder) (method : Method) (left : Leave) → z.running.method ≡ method_of method
        → HasLeft b z.running.method z.running.now (left_of left) → Leaving t s b [] (w.on ∷ w.others)
        → Follows t s store (record d { builder = b }) p below parent method left
    follows_so b method left same h l = record {
      on = w.on;
      others = w.others;
      running = z.running;
      counts = w.counts;
      undone = w.undone;
      current = w.current;
      parent_is = w.parent_is;
      runs = z.runs;
      method_is = same;
      stored = w.stored;
      under = w.under;
      held = subst (λ ls. HoldsLevels t s b p.constants ls (w.on ∷ w.others))
          w.under.levels_are
          (levels_left t s w.earlier b p.constants (level ∷ parent ∷ below) w.top w.on w.others l w.before);
      left_so = h;
    }

    -- by what the code planned, and the place of the open subgoal
    module _ (planned_here : Planned) (place : ℕ) (i : IsRunning planned_here place d.current.running) where
      run_is : (z.here.planned.value ≡ planned_here) × (place ≡ length z.here.left)
      run_is = subst (IsRunning planned_here place) z.is_here i

      pub how_many_here : length planned_here.plan.subgoals ≡ place + suc (length w.on.level.remaining)
      how_many_here =
          ap (λ (p : Planned). length p.plan.subgoals) (sym run_is.0) ∙ how_many
          ∙ ap (λ n. n + suc (length w.on.level.remaining)) (sym run_is.1)

      pub place_within : place < length planned_here.plan.subgoals
      place_within = omega (arith, how_many_here)

      pub method_there : z.running.method ≡ method_of planned_here.method
      method_there = z.like.method ∙ ap (λ (p : Planned). method_of p.method) run_is.0

      pub now_there : slice_get planned_here.plan.subgoals place ≡ Some (subgoal_of z.running.now)
      now_there =
          ap (λ (p : Planned). slice_get p.plan.subgoals place) (sym run_is.0)
          ∙ ap (slice_get z.here.planned.value.plan.subgoals) run_is.1 ∙ now_at

      pub next_there : slice_get planned_here.plan.subgoals (place + 1)
          ≡ slice_get (map subgoal_of w.on.level.remaining) 0
      next_there =
          ap (λ (p : Planned). slice_get p.plan.subgoals (place + 1)) (sym run_is.0)
          ∙ ap (λ n. slice_get z.here.planned.value.plan.subgoals (n + 1)) run_is.1
          ∙ ap (slice_get z.here.planned.value.plan.subgoals) (add-one (length z.here.left)) ∙ next_at

      pub room_there : 0 < unleft d.current.running
      room_there =
          let n : unleft d.current.running ≡ length z.here.planned.value.plan.subgoals - length z.here.left =
          ap unleft z.is_here in omega (arith, n, how_many)

      module _ (b : Builder) (left : Leave)
          (h : HasLeft b z.running.method z.running.now (left_of left) × Leaving t s b [] (w.on ∷ w.others)) where
        pub follows_with : (g : Subgoal) → slice_get planned_here.plan.subgoals (place + 1) ≡ Some g
            → FollowsWith t s store (record d { builder = b }) p below parent planned_here.method g left
        follows_with g e =
            let found = first_mapped w.on.level.remaining g (sym next_there ∙ e) in record {
              follows = follows_so b planned_here.method left method_there h.0 h.1;
              next = found.0;
              waiting = found.1.0;
              remaining = ap (λ (l : defined.Level). l.remaining) (sym w.parent_is) ∙ found.1.1.0;
              subgoal_is = found.1.1.1;
            }

        pub ends_with : slice_get planned_here.plan.subgoals (place + 1) ≡ None
            → EndsWith t s store (record d { builder = b }) p below parent planned_here.method left
        ends_with e = record {
          follows = follows_so b planned_here.method left method_there h.0 h.1;
          remaining = ap (λ (l : defined.Level). l.remaining) (sym w.parent_is)
              ∙ none_mapped w.on.level.remaining (sym next_there ∙ e);
        }
