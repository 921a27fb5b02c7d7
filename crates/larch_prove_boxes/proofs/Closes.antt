-- Subgoals are left.
use Rattle.std.specs.Prelude.{◌≡◌, ℕ, List, [], ◌∷◌, map, All, Contains, Ok, refl}
use Rattle.std.proofs.Common.{ap, subst, sym, ◌∙◌}
use Rattle.std.proofs.lemmas.List.Elements.{All-head}
use Rattle.larch_base.proofs.Members.{contains_here, contains_right}
use Rattle.larch_term.specs.Operator.{PlainOperator}
use Rattle.larch_term.specs.Tree.{Tree}
use Rattle.larch_term.specs.Truth.{truth}
use Rattle.larch_term.specs.declared.statement.Statement.{Statement}
use Rattle.larch_term.specs.declared.statement.Statement.TheVariants.{Equation}
use Rattle.larch_term.specs.declared.statement.Theory.{Theory}
use Rattle.larch_derive.specs.Predicates.{Extends, Grows, HasEquation}
use Rattle.larch_derive.specs.declared.builder.Builder.{Builder}
use Rattle.larch_derive.specs.declared.open_box.OpenBox.{OpenBox}
use Rattle.larch_derive.proofs.Growth.{extends_grows, grows_same, grows_trans}
use Rattle.larch_prove_invariant.specs.DeriveBoxesBoxes.{HasResult, Opens}
use Rattle.larch_prove_invariant.specs.ProveMeaningLevels.{Level}
use Rattle.larch_prove_invariant.specs.ProveMeaningPlans.{Cases, Conjunction, Contradiction}
use Rattle.larch_prove_invariant.specs.ProveMeaningPlans.{Implication, Induction, Method}
use Rattle.larch_prove_invariant.specs.ProveMeaningPlans.{Partition, plan}
use Rattle.larch_prove_invariant.specs.Book.{AtLine, Done, InBox, Kept, Running, SupposingBox, levels_of}
use Rattle.larch_prove_invariant.specs.Holding.{HasLeft, HoldsLevels, IsThere, Runs, said_of, shape_of}
use Rattle.larch_prove_invariant.specs.Leaving.{Leaving}
use Rattle.larch_prove_invariant.proofs.Boxes.{all_open}
use Rattle.larch_prove_invariant.proofs.Entrances.{box_left, line_left}
use Rattle.larch_prove_invariant.proofs.Held.{running_is}
use Rattle.larch_prove_invariant.proofs.Left.{leaving_grows, leaving_opened}
use Rattle.larch_prove_invariant.proofs.LevelConstants.{levels_left}
use Rattle.larch_prove_invariant.proofs.PartitionEnd.{observations_said}
use Rattle.larch_prove_invariant.proofs.Said.{contradiction_said, implication_known}
use Rattle.larch_prove_boxes.specs.BoxLists.{boxes_with}
use Rattle.larch_prove_boxes.specs.Saying.{MaySay, ShowsSubgoal}
use Rattle.larch_prove_boxes.proofs.Entrances.{bare_is_conjunction}

-- ---- lists of boxes

pub no_box : (xs : List SupposingBox) → boxes_with xs ≡ [] → xs ≡ []
no_box [] e = refl
no_box (x ∷ xs) e = cc

pub one_box : (xs : List SupposingBox) (b : OpenBox) → boxes_with xs ≡ b ∷ []
    → (x : SupposingBox) × ((xs ≡ x ∷ []) × (x.box ≡ b))
one_box [] b e = cc
one_box (x ∷ []) b e = (x, (refl, cc))
one_box (x ∷ y ∷ ys) b e = cc

-- ---- what a method wants said

-- the open subgoal is one of the plan's
now_planned : (a b : Builder) (level : Level) (r : Running) → Runs a b level r → Contains r.plan.subgoals r.now
now_planned a b level r h =
    subst (λ ss. Contains ss r.now) (sym h.order)
    (contains_right (map (λ (d : Done). d.subgoal) r.done) (r.now ∷ level.remaining) r.now
    (contains_here r.now level.remaining))

-- the levels below, as they were held before the subgoal's box was opened
held_below : (t : Theory) (s : Statement) (a b : Builder) (cs : List PlainOperator) (levels : List Level)
    (k j : Kept) (ks : List Kept) (r : Running) (line : ℕ) → (h : ShowsSubgoal t s a b cs levels k j ks r line)
    → HoldsLevels t s h.leaving.entered cs (levels_of (j ∷ ks)) (j ∷ ks)
held_below t s a b cs levels k j ks r line h =
    levels_left t s a h.leaving.entered cs levels k j ks (record {
      entered = h.leaving.entered;
      below = h.leaving.below;
      boxes = grows_same h.leaving.entered h.leaving.entered refl;
    }) h.held

pub may_say : (t : Theory) (s : Statement) (a b : Builder) (cs : List PlainOperator) (levels : List Level)
    (k j : Kept) (ks : List Kept) (r : Running) (line : ℕ) (x : SupposingBox)
    → ShowsSubgoal t s a b cs levels k j ks r line → k.book.entrance ≡ x ∷ []
    → MaySay b r.method r.now x.box.number
may_say t s a b cs levels k j ks r line x h e = by_method r.method refl
  where
    below : HoldsLevels t s h.leaving.entered cs (levels_of (j ∷ ks)) (j ∷ ks)
    below = held_below t s a b cs levels k j ks r line h

    outside : Builder
    outside = below.held.1.1.1.outside

    runs : Runs outside h.leaving.entered j.level r
    runs = running_is outside h.leaving.entered j r h.running below.held.1.1.1.running

    now : Contains r.plan.subgoals r.now
    now = now_planned outside h.leaving.entered j.level r runs

    planned : (m : Method) → r.method ≡ m → plan r.setting j.level.goal m ≡ Ok r.plan
    planned m q = subst (λ n. plan r.setting j.level.goal n ≡ Ok r.plan) q runs.planned.planned

    there : IsThere b x
    there =
        All-head (IsThere b) x []
        (subst (All (IsThere b)) e (all_open h.leaving.entered b k.book.entrance h.leaving.boxes))

    by_method : (m : Method) → r.method ≡ m → MaySay b m r.now x.box.number
    by_method (Cases f) q = tt
    by_method Implication q =
        (implication_known t s h.leaving.entered b cs (levels_of (j ∷ ks)) j ks r r.now k.book.entrance below
        h.running q now h.leaving.boxes h.enters.entrance).1
    by_method Conjunction q = tt
    by_method Contradiction q =
        let c = contradiction_said r.setting j.level.goal r k.book b x runs.planned.planned q now h.enters e there in
        (x.box, (refl, (sym h.enters.first ∙ c.0, c.1.1)))
    by_method (Induction n) q = tt
    by_method Partition q = observations_said r.setting j.level.goal r.plan r.now (planned Partition q) now

-- ---- the end of a subgoal

-- what a line says of the subgoal's goal
pub goal_said : (t : Theory) (s : Statement) (a b : Builder) (cs : List PlainOperator) (levels : List Level)
    (k j : Kept) (ks : List Kept) (r : Running) (line : ℕ) → ShowsSubgoal t s a b cs levels k j ks r line
    → HasEquation b line r.now.goal truth
goal_said t s a b cs levels k j ks r line h = subst (λ g. HasEquation b line g truth) h.enters.first h.says

-- without a box
pub bare_left : (t : Theory) (s : Statement) (a b : Builder) (cs : List PlainOperator) (levels : List Level)
    (k j : Kept) (ks : List Kept) (r : Running) (line : ℕ) → ShowsSubgoal t s a b cs levels k j ks r line
    → boxes_with k.book.entrance ≡ [] → HasLeft b r.method r.now (AtLine line) × Leaving t s b [] (j ∷ ks)
bare_left t s a b cs levels k j ks r line h e =
    let none = no_box k.book.entrance e in
    let m = bare_is_conjunction r.method r.now (sym h.enters.entrance ∙ ap (map shape_of) none) in (
      line_left b r k.book line h.enters none
          (subst (λ n. HasEquation b line (said_of n r.now).left (said_of n r.now).right) (sym m)
          (goal_said t s a b cs levels k j ks r line h)),
      subst (λ xs. Leaving t s b xs (j ∷ ks)) none h.leaving,
    )

-- what the call that closes the innermost box promises
abbrev pub ResultsIn : Builder → Builder → ℕ → Type 0
ResultsIn d e n =
    (a b : Builder) (x : OpenBox) (hs : List Statement) (l r : Tree) → Opens a b x hs → Grows b d
    → HasEquation d n l r → HasResult e x hs (Equation l r)

abbrev pub GrowsOut : Builder → Builder → ℕ → Type 0
GrowsOut d e n =
    (a b : Builder) (x : OpenBox) (hs : List Statement) (l r : Tree) → Opens a b x hs → Grows b d
    → HasEquation d n l r → Grows a e

-- in its box, which is closed
pub box_closed : (t : Theory) (s : Statement) (a b d e : Builder) (cs : List PlainOperator) (levels : List Level)
    (k j : Kept) (ks : List Kept) (r : Running) (line n : ℕ) (x : SupposingBox)
    → ShowsSubgoal t s a b cs levels k j ks r line → k.book.entrance ≡ x ∷ [] → Extends b d
    → HasEquation d n (said_of r.method r.now).left (said_of r.method r.now).right → ResultsIn d e n → GrowsOut d e n
    → HasLeft e r.method r.now (InBox x.box) × Leaving t s e [] (j ∷ ks)
box_closed t s a b d e cs levels k j ks r line n x h q m said result grows =
    let i = leaving_opened t s b [] x (j ∷ ks) (subst (λ xs. Leaving t s b xs (j ∷ ks)) q h.leaving) in
    let inside = i.1.1 in
    let grown = grows_trans inside.opened b d inside.grows (extends_grows b d m) in
    let l = (said_of r.method r.now).left in
    let u = (said_of r.method r.now).right in (
      box_left e r k.book x h.enters q
          (result i.0 inside.opened x.box x.hypotheses l u inside.opens grown said),
      leaving_grows t s i.0 e [] (j ∷ ks)
          (grows i.0 inside.opened x.box x.hypotheses l u inside.opens grown said) i.1.0,
    )
