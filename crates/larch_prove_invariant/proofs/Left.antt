-- Levels are left: their boxes are closed, from the innermost on.
use Rattle.std.specs.Prelude.{◌≡◌, ℕ, List, [], ◌∷◌, ◌++◌, map, length, All, None, Some}
use Rattle.std.specs.List.{AllZip}
use Rattle.std.proofs.Common.{ap, subst, sym, ◌∙◌}
use Rattle.std.proofs.lemmas.List.{append-nil, map-append}
use Rattle.std.proofs.lemmas.List.Elements.{All-head, All-push, All-tail}
use Rattle.larch_term.specs.Tree.{Tree}
use Rattle.larch_term.specs.declared.statement.Statement.{Statement}
use Rattle.larch_term.specs.declared.statement.Statement.TheVariants.{Equation}
use Rattle.larch_term.specs.declared.statement.Theory.{Theory}
use Rattle.larch_derive.specs.VerifyMeaningAcceptance.{Accepts}
use Rattle.larch_derive.specs.VerifyMeaningLastLine.{EndsWithoutStatedClause}
use Rattle.larch_derive.specs.Builder.{lines_in, theory_in}
use Rattle.larch_derive.specs.Finished.{IsFinished}
use Rattle.larch_derive.specs.Predicates.{Grows, HasEquation, HasStatement}
use Rattle.larch_derive.specs.declared.builder.Builder.{Builder}
use Rattle.larch_derive.proofs.Accepting.{accepted, clause_finished, equation_finished}
use Rattle.larch_methods.specs.DeriveBoxesBoxes.{HasResult}
use Rattle.larch_methods.specs.Clauses.{IsSupposing}
use Rattle.larch_prove_invariant.specs.Book.{Done, Kept, Left, Running, SupposingBox, all_left, own_boxes}
use Rattle.larch_prove_invariant.specs.Ending.{HasAllLeft, StandsAt}
use Rattle.larch_prove_invariant.specs.Holding.{HasLeft, Holds, Runs}
use Rattle.larch_prove_invariant.specs.Leaving.{IsClosedWith, Leaving}
use Rattle.larch_prove_invariant.proofs.Boxes.{closed_innermost, innermost, through_grows}
use Rattle.larch_prove_invariant.proofs.Held.{current_said, done_order, holds_grows, idle_boxes, running_is, says_grows}
use Rattle.larch_prove_invariant.proofs.Held.{shared_is}

-- ---- boxes

pub leaving_grows : (t : Theory) (s : Statement) (b c : Builder) (xs : List SupposingBox) (ks : List Kept) → Grows b c
    → Leaving t s b xs ks → Leaving t s c xs ks
leaving_grows t s b c xs ks g l =
    record { entered = l.entered; below = l.below; boxes = through_grows l.entered b c xs g l.boxes }

pub leaving_closed : (t : Theory) (s : Statement) (b c : Builder) (xs : List SupposingBox) (x : SupposingBox)
    (ks : List Kept) (n : ℕ) (l r : Tree) → Leaving t s b (xs ++ x ∷ []) ks → HasEquation b n l r → IsClosedWith b c n
    → Leaving t s c xs ks × HasResult c x.box x.hypotheses (Equation l r)
leaving_closed t s b c xs x ks n l r m h e =
    let z = closed_innermost m.entered b c xs x n l r m.boxes h e in
    (record { entered = m.entered; below = m.below; boxes = z.0 }, z.1)

-- from outside of the innermost box it was opened, and the builder has grown since then
pub leaving_opened : (t : Theory) (s : Statement) (b : Builder) (xs : List SupposingBox) (x : SupposingBox)
    (ks : List Kept) → Leaving t s b (xs ++ x ∷ []) ks
    → (a : Builder) × (Leaving t s a xs ks × IsSupposing a b x.box x.hypotheses)
leaving_opened t s b xs x ks m =
    let i = innermost m.entered b xs x m.boxes in (
      i.outside,
      (
        record { entered = m.entered; below = m.below; boxes = i.before },
        record { opened = i.inside; opens = i.opens; grows = i.grows },
      ),
    )

pub left_levels : (t : Theory) (s : Statement) (b : Builder) (ks : List Kept) → Leaving t s b [] ks → Holds t s b ks
left_levels t s b ks l = holds_grows t s l.entered b ks l.boxes l.below

-- ---- the level itself

pub stands_grow : (t : Theory) (s : Statement) (b c : Builder) (k : Kept) (ks : List Kept) → Grows b c
    → StandsAt t s b k ks → StandsAt t s c k ks
stands_grow t s b c k ks g h =
    record {
      leaving = leaving_grows t s b c (own_boxes k.book) ks g h.leaving;
      says = says_grows b c k g h.says;
    }

-- where no method runs, the builder stands in the level's own boxes
pub idle_stands : (t : Theory) (s : Statement) (b : Builder) (k : Kept) (ks : List Kept) → k.book.running ≡ None
    → Holds t s b (k ∷ ks) → StandsAt t s b k ks
idle_stands t s b k ks e (a, (i, (w, h))) =
    record {
      leaving = record { entered = a; below = i; boxes = idle_boxes a b k e h };
      says = current_said t s b k ks (a, (i, (w, h)));
    }

-- ---- all subgoals of a method

lefts_zip : (b : Builder) (r : Running) (done : List Done)
    → All (λ (d : Done). HasLeft b r.method d.subgoal d.left) done
    → AllZip (HasLeft b r.method) (map (λ (d : Done). d.subgoal) done) (map (λ (d : Done). d.left) done)
lefts_zip b r [] h = tt
lefts_zip b r (d ∷ ds) h =
    let P : Done → Type 0 = λ (e : Done). HasLeft b r.method e.subgoal e.left in
    (All-head P d ds h, lefts_zip b r ds (All-tail P d ds h))

lefts_are : (r : Running) (left : Left)
    → map (λ (d : Done). d.left) (r.done ++ record { subgoal = r.now; left = left } ∷ []) ≡ all_left r left
lefts_are r left = map-append (λ (d : Done). d.left) r.done (record { subgoal = r.now; left = left } ∷ [])

all_zip : (a b : Builder) (k : Kept) (r : Running) (left : Left) → Runs a b k.level r → k.level.remaining ≡ []
    → HasLeft b r.method r.now left → AllZip (HasLeft b r.method) r.plan.subgoals (all_left r left)
all_zip a b k r left u e h =
    let step : Done = record { subgoal = r.now; left = left } in
    let all = r.done ++ step ∷ [] in
    let order : r.plan.subgoals ≡ map (λ (d : Done). d.subgoal) all =
    u.order ∙ (ap (λ ss. map (λ (d : Done). d.subgoal) r.done ++ r.now ∷ ss) e
    ∙ (done_order r.done step [] ∙ append-nil (map (λ (d : Done). d.subgoal) all))) in
    subst (λ ss. AllZip (HasLeft b r.method) ss (all_left r left)) (sym order)
    (subst (AllZip (HasLeft b r.method) (map (λ (d : Done). d.subgoal) all)) (lefts_are r left)
    (lefts_zip b r all (All-push (λ (d : Done). HasLeft b r.method d.subgoal d.left) r.done step u.done h)))

-- where the last subgoal of a method was left, all were, and outside of their box the builder stood on the level
pub method_left : (t : Theory) (s : Statement) (b : Builder) (k : Kept) (ks : List Kept) (r : Running) (left : Left)
    → Holds t s b (k ∷ ks) → k.book.running ≡ Some r → k.level.remaining ≡ [] → HasLeft b r.method r.now left
    → (a : Builder) × (StandsAt t s a k ks × HasAllLeft a b k.level.goal r (all_left r left))
method_left t s b k ks r left (a, (i, (w, h))) e q l =
    let u = running_is h.outside b k r e h.running in (
      h.outside,
      (
        record { leaving = record { entered = a; below = i; boxes = h.boxes }; says = h.says },
        record {
          planned = u.planned;
          shared = shared_is h.outside b k r e h.shared;
          left = all_zip h.outside b k r left u q l;
        },
      ),
    )

-- ---- the end

-- where all boxes of the lowest level are closed, the lines are accepted for what the last of them says
pub end_accepted : (t : Theory) (s : Statement) (c : Builder) (u : Statement) (n : ℕ) → Leaving t s c [] []
    → HasStatement c n u → n ≡ length (lines_in c) → Accepts t u (lines_in c)
end_accepted t s c u n h w e =
    let start = left_levels t s c [] h in
    subst (λ v. Accepts v u (lines_in c)) start.theory (accepted c n u w start.boxes e)

-- and they can be handed over: where the last line says an equation
pub end_equation : (t : Theory) (s : Statement) (c : Builder) (l r : Tree) (n : ℕ) → Leaving t s c [] []
    → HasEquation c n l r → n ≡ length (lines_in c) → IsFinished t (Equation l r) (lines_in c)
end_equation t s c l r n h w e =
    let start = left_levels t s c [] h in
    subst (λ v. IsFinished v (Equation l r) (lines_in c)) start.theory (equation_finished c n l r w start.boxes e)

-- or a clause that the theory doesn't state
pub end_clause : (t : Theory) (s : Statement) (c : Builder) (u : Statement) (n : ℕ) → Leaving t s c [] []
    → HasStatement c n u → n ≡ length (lines_in c) → EndsWithoutStatedClause (theory_in c) (lines_in c)
    → IsFinished t u (lines_in c)
end_clause t s c u n h w e ends =
    let start = left_levels t s c [] h in
    subst (λ v. IsFinished v u (lines_in c)) start.theory (clause_finished c n u w start.boxes e ends)
