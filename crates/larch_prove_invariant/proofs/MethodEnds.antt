-- What was left of a method's subgoals is what the method's end takes.
use Rattle.std.specs.Prelude.{◌≡◌, ℕ, List, [], ◌∷◌, map, Ok, refl}
use Rattle.std.specs.List.{AllZip}
use Rattle.std.proofs.Common.{ap, ap₂, subst, sym, ◌∙◌}
use Rattle.larch_term.specs.Tree.{Tree}
use Rattle.larch_term.specs.Truth.{truth}
use Rattle.larch_term.specs.Variable.{variables_of}
use Rattle.larch_calculus.specs.Formula.{falsity, implication}
use Rattle.larch_derive.specs.Predicates.{Grows, HasEquation}
use Rattle.larch_derive.specs.Words.{IsWordedTerm}
use Rattle.larch_derive.specs.declared.builder.Builder.{Builder}
use Rattle.larch_derive.specs.declared.open_box.OpenBox.{OpenBox}
use Rattle.larch_derive.proofs.Words.{known_worded}
use Rattle.larch_methods.specs.ProveMeaningPlans.{Cases, Conjunction, Contradiction, Implication, Induction, Method}
use Rattle.larch_methods.specs.ProveMeaningPlans.{Plan, Subgoal, closed_by, constants_of}
use Rattle.larch_methods.specs.ProveMeaningPlans.{fails, holds, plan, shared_subgoal}
use Rattle.larch_methods.specs.Methods.{IsKnownFormula}
use Rattle.larch_methods.specs.Opening.{IsShownIn}
use Rattle.larch_methods.proofs.Begun.{cases_inside, contradiction_inside, implication_inside}
use Rattle.larch_methods.proofs.Left.{cases_left, conjunction_left, contradiction_left, implication_left}
use Rattle.larch_methods.proofs.Left.{induction_left}
use Rattle.larch_methods.proofs.Planned.{cases_planned, contradiction_planned, implication_planned}
use Rattle.larch_methods.proofs.Sharing.{inside_grown}
use Rattle.larch_prove_invariant.specs.Book.{AtLine, InBox, Left, Running}
use Rattle.larch_prove_invariant.specs.Ending.{EndsByCases, EndsByConjunction, EndsByContradiction, EndsByImplication}
use Rattle.larch_prove_invariant.specs.Ending.{EndsByInduction, HasAllLeft}
use Rattle.larch_prove_invariant.specs.Holding.{HasLeft, IsKnownFor, Through, entrances, own_shape, said_of, shape_of}
use Rattle.larch_prove_invariant.specs.Holding.{shared_shapes}
use Rattle.larch_prove_invariant.proofs.Shared.{box_own, formula_grows, is_implication, is_induction, no_shapes}
use Rattle.larch_prove_invariant.proofs.Shared.{shared_box}

-- where a method has no shared box, the builder has grown alone
pub shares_none : (a b : Builder) (goal : Tree) (r : Running) (lefts : List Left) (method : Method) → r.method ≡ method
    → shared_shapes method r.plan ≡ [] → HasAllLeft a b goal r lefts → Grows a b
shares_none a b goal r lefts method e q h =
    subst (λ xs. Through a xs b) (no_shapes r.shared (subst (λ m. map shape_of r.shared ≡ shared_shapes m r.plan) e
    h.planned.shared ∙ q)) h.shared

-- ---- what was left, subgoal by subgoal

-- one box was left, and so were two
one_left : (R : Subgoal → Left → Type 0) (s : Subgoal) (lefts : List Left) → AllZip R (s ∷ []) lefts
    → (l : Left) × ((lefts ≡ l ∷ []) × R s l)
one_left R s [] h = absurd h
one_left R s (l ∷ []) h = (l, (refl, h.0))
one_left R s (l ∷ m ∷ ls) h = absurd h.1

two_left : (R : Subgoal → Left → Type 0) (s u : Subgoal) (lefts : List Left) → AllZip R (s ∷ u ∷ []) lefts
    → (l : Left) × ((m : Left) × ((lefts ≡ l ∷ m ∷ []) × (R s l × R u m)))
two_left R s u [] h = absurd h
two_left R s u (l ∷ ls) h =
    let r = one_left R u ls h.1 in (l, (r.0, (ap (λ ms. l ∷ ms) r.1.0, (h.0, r.1.1))))

-- a subgoal that is proved in a box was left in one
in_box : (b : Builder) (method : Method) (s : Subgoal) (l : Left) → (entrances method s ≡ [] → ⊥) → HasLeft b method s l
    → (x : OpenBox) × ((l ≡ InBox x) × IsShownIn b s (said_of method s) x)
in_box b method s (InBox x) n h = (x, (refl, h.1))
in_box b method s (AtLine k) n h = absurd (n h.0)

-- one that isn't was left in a line
at_line : (b : Builder) (s : Subgoal) (l : Left) → HasLeft b Conjunction s l
    → (n : ℕ) × ((l ≡ AtLine n) × HasEquation b n s.goal truth)
at_line b s (InBox x) h = let e : [] ≡ own_shape s ∷ [] = h.0 in cc
at_line b s (AtLine n) h = (n, (refl, h.1))

all_lines : (b : Builder) (ss : List Subgoal) (lefts : List Left) → AllZip (HasLeft b Conjunction) ss lefts
    → (ns : List ℕ) × ((lefts ≡ map AtLine ns) × AllZip (λ (s : Subgoal) n. HasEquation b n s.goal truth) ss ns)
all_lines b [] [] h = ([], (refl, tt))
all_lines b [] (l ∷ ls) h = absurd h
all_lines b (s ∷ ss) [] h = absurd h
all_lines b (s ∷ ss) (l ∷ ls) h =
    let first = at_line b s l h.0 in
    let rest = all_lines b ss ls h.1 in (
      first.0 ∷ rest.0,
      (ap₂ (λ m ms. m ∷ ms) first.1.0 rest.1.0, (first.1.1, rest.1.1)),
    )

-- where each subgoal is proved in a box, each was left in one
pub all_boxes_left : (b : Builder) (method : Method) → ((s : Subgoal) → entrances method s ≡ [] → ⊥)
    → (ss : List Subgoal) (lefts : List Left) → AllZip (HasLeft b method) ss lefts
    → (xs : List OpenBox) × ((lefts ≡ map InBox xs) × AllZip (λ s x. IsShownIn b s (said_of method s) x) ss xs)
all_boxes_left b method n [] [] h = ([], (refl, tt))
all_boxes_left b method n [] (l ∷ ls) h = absurd h
all_boxes_left b method n (s ∷ ss) [] h = absurd h
all_boxes_left b method n (s ∷ ss) (l ∷ ls) h =
    let first = in_box b method s l (n s) h.0 in
    let rest = all_boxes_left b method n ss ls h.1 in (
      first.0 ∷ rest.0,
      (ap₂ (λ m ms. m ∷ ms) first.1.0 rest.1.0, (first.1.1, rest.1.1)),
    )

-- ---- by cases

pub cases_end : (a b : Builder) (f goal : Tree) (r : Running) (lefts : List Left) → r.method ≡ Cases f
    → HasAllLeft a b goal r lefts → EndsByCases a b f goal r.shared lefts
cases_end a b f goal r lefts e h =
    let p = subst (λ m. plan r.setting goal m ≡ Ok r.plan) e h.planned.planned in
    let q = cases_planned r.setting goal f r.plan p in
    let known : IsKnownFormula a f = subst (IsKnownFor a) e h.planned.method_known in
    let s = shared_box a b r.plan.constants r.shared
    (subst (λ m. map shape_of r.shared ≡ shared_shapes m r.plan) e h.planned.shared) h.planned.apart h.shared in
    let x = s.around.supposing.box in
    let first = shared_subgoal (holds (closed_by f (constants_of r.setting.taken goal f) f) ∷ [])
    (closed_by f (constants_of r.setting.taken goal f) goal) in
    let second = shared_subgoal (fails (closed_by f (constants_of r.setting.taken goal f) f) ∷ [])
    (closed_by f (constants_of r.setting.taken goal f) goal) in
    let z = subst (λ (made : Plan). AllZip (HasLeft b (Cases f)) made.subgoals lefts) q
    (subst (λ m. AllZip (HasLeft b m) r.plan.subgoals lefts) e h.left) in
    let two = two_left (HasLeft b (Cases f)) first second lefts z in
    let y = in_box b (Cases f) first two.0 (λ w. cc) two.1.1.1.0 in
    let v = in_box b (Cases f) second two.1.0 (λ w. cc) two.1.1.1.1 in
    let back = subst (λ (made : Plan). AllZip (λ (g : Subgoal) u. IsShownIn b g (holds g.goal) u) made.subgoals
    (y.0 ∷ v.0 ∷ [])) (sym q) (y.1.1, (v.1.1, tt)) in
    record {
      around = s.around;
      first = y.0;
      second = v.0;
      lefts_are = two.1.1.0 ∙ ap₂ (λ l m. l ∷ m ∷ []) y.1.0 v.1.0;
      shown = cases_left s.around.outside b x y.0 v.0 r.setting goal f r.plan p s.constants
          (inside_grown s.around.outside s.opened b x (variables_of f)
          (cases_inside s.around.outside s.opened x r.setting goal f r.plan p s.opens s.constants
          (box_own s.around.outside x r.plan.constants s.constants s.own) (known_worded a f known.known)) s.grown) back
          (formula_grows a s.around.outside goal s.around.grows h.planned.goal_known);
    }

-- ---- by contradiction

pub contradiction_end : (a b : Builder) (goal : Tree) (r : Running) (lefts : List Left) → r.method ≡ Contradiction
    → HasAllLeft a b goal r lefts → EndsByContradiction a b goal r.shared lefts
contradiction_end a b goal r lefts e h =
    let p = subst (λ m. plan r.setting goal m ≡ Ok r.plan) e h.planned.planned in
    let q = contradiction_planned r.setting goal r.plan p in
    let cs = constants_of r.setting.taken goal goal in
    let s = shared_box a b r.plan.constants r.shared
    (subst (λ m. map shape_of r.shared ≡ shared_shapes m r.plan) e h.planned.shared) h.planned.apart h.shared in
    let x = s.around.supposing.box in
    let same : cs ≡ x.constants = sym (s.constants ∙ ap (λ (made : Plan). made.constants) q) in
    let only = shared_subgoal (fails (closed_by goal cs goal) ∷ []) falsity in
    let z = subst (λ (made : Plan). AllZip (HasLeft b Contradiction) made.subgoals lefts) q
    (subst (λ m. AllZip (HasLeft b m) r.plan.subgoals lefts) e h.left) in
    let one = one_left (HasLeft b Contradiction) only lefts z in
    let y = in_box b Contradiction only one.0 (λ w. cc) one.1.1 in
    let there = subst (λ ds. IsShownIn b only (holds (closed_by goal ds goal)) y.0) same y.1.1 in
    let back = subst (λ (made : Plan).
    AllZip (λ g u. IsShownIn b g (holds (closed_by goal x.constants goal)) u) made.subgoals (y.0 ∷ [])) (sym q)
    (there, tt) in
    record {
      around = s.around;
      only = y.0;
      lefts_are = one.1.0 ∙ ap (λ l. l ∷ []) y.1.0;
      shown = contradiction_left s.around.outside b x y.0 r.setting goal r.plan p s.constants
          (inside_grown s.around.outside s.opened b x (variables_of goal)
          (contradiction_inside s.around.outside s.opened x r.setting goal r.plan p s.opens s.constants
          (box_own s.around.outside x r.plan.constants s.constants s.own)
          (known_worded a goal h.planned.goal_known.known)) s.grown) back
          (formula_grows a s.around.outside goal s.around.grows h.planned.goal_known);
    }

-- ---- of an implication

pub implication_end : (a b : Builder) (goal : Tree) (r : Running) (lefts : List Left) → r.method ≡ Implication
    → HasAllLeft a b goal r lefts → EndsByImplication a b goal r.shared lefts
implication_end a b goal r lefts e h =
    let w = subst (λ m. plan r.setting goal m ≡ Ok r.plan) e h.planned.planned in
    let i = is_implication r.setting goal r.plan w in
    let p = i.0.0 in
    let c = i.0.1 in
    let q = implication_planned r.setting goal p c r.plan i.1 w in
    let cs = constants_of r.setting.taken goal p in
    let s = shared_box a b r.plan.constants r.shared
    (subst (λ m. map shape_of r.shared ≡ shared_shapes m r.plan) e h.planned.shared) h.planned.apart h.shared in
    let x = s.around.supposing.box in
    let same : cs ≡ x.constants = sym (s.constants ∙ ap (λ (made : Plan). made.constants) q) in
    let only = shared_subgoal (holds (closed_by p cs p) ∷ []) (closed_by p cs c) in
    let z = subst (λ (made : Plan). AllZip (HasLeft b Implication) made.subgoals lefts) q
    (subst (λ m. AllZip (HasLeft b m) r.plan.subgoals lefts) e h.left) in
    let one = one_left (HasLeft b Implication) only lefts z in
    let y = in_box b Implication only one.0 (λ n. cc) one.1.1 in
    let there = subst (λ g. IsShownIn b only (holds (closed_by p x.constants g)) y.0) (sym i.1)
    (subst (λ ds. IsShownIn b only (holds (closed_by p ds (implication p c))) y.0) same y.1.1) in
    let back = subst (λ (made : Plan).
    AllZip (λ g u. IsShownIn b g (holds (closed_by p x.constants goal)) u) made.subgoals (y.0 ∷ [])) (sym q)
    (there, tt) in
    record {
      around = s.around;
      premise = p;
      conclusion = c;
      goal_is = i.1;
      only = y.0;
      lefts_are = one.1.0 ∙ ap (λ l. l ∷ []) y.1.0;
      shown = implication_left s.around.outside b x y.0 r.setting goal p c r.plan i.1 w s.constants
          (inside_grown s.around.outside s.opened b x (variables_of p)
          (implication_inside s.around.outside s.opened x r.setting goal p c r.plan i.1 w s.opens s.constants
          (box_own s.around.outside x r.plan.constants s.constants s.own)
          (subst IsWordedTerm i.1 (known_worded a goal h.planned.goal_known.known)).1.0) s.grown) back
          (formula_grows a s.around.outside goal s.around.grows h.planned.goal_known);
    }

-- ---- of a conjunction

pub conjunction_end : (a b : Builder) (goal : Tree) (r : Running) (lefts : List Left) → r.method ≡ Conjunction
    → HasAllLeft a b goal r lefts → EndsByConjunction b goal lefts
conjunction_end a b goal r lefts e h =
    let p = subst (λ m. plan r.setting goal m ≡ Ok r.plan) e h.planned.planned in
    let z = subst (λ m. AllZip (HasLeft b m) r.plan.subgoals lefts) e h.left in
    let l = all_lines b r.plan.subgoals lefts z in
    record {
      lines = l.0;
      lefts_are = l.1.0;
      known = formula_grows a b goal (shares_none a b goal r lefts Conjunction e refl h) h.planned.goal_known;
      shown = conjunction_left b r.setting goal r.plan l.0 p l.1.1;
    }

-- ---- by induction

pub induction_end : (a b : Builder) (goal : Tree) (n : List ℕ) (r : Running) (lefts : List Left)
    → r.method ≡ Induction n → HasAllLeft a b goal r lefts → EndsByInduction b r.setting goal n lefts
induction_end a b goal n r lefts e h =
    let p = subst (λ m. plan r.setting goal m ≡ Ok r.plan) e h.planned.planned in
    let f = is_induction r.setting goal n r.plan p in
    let z = subst (λ m. AllZip (HasLeft b m) r.plan.subgoals lefts) e h.left in
    let xs = all_boxes_left b (Induction n) (λ s w. cc) r.plan.subgoals lefts z in
    record {
      variable = f.0;
      found = f.1.0;
      operators = f.1.1.0;
      generating = f.1.1.1;
      boxes = xs.0;
      lefts_are = xs.1.0;
      shown = λ clause st.
          induction_left b r.setting goal n f.0 f.1.1.0 clause r.plan xs.0 p f.1.0 f.1.1.1 st h.planned.own xs.1.1
          (formula_grows a b goal (shares_none a b goal r lefts (Induction n) e refl h) h.planned.goal_known);
    }
