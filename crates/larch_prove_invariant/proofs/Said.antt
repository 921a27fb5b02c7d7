-- What must be said of a subgoal, in the form in which its lines are pushed.
use Rattle.std.specs.Prelude.{◌≡◌, ◌++◌, List, [], ◌∷◌, map, All, Contains, Ok, Some, refl}
use Rattle.std.proofs.Common.{ap, ap₂, inr, subst, sym, ◌∙◌}
use Rattle.std.proofs.lemmas.List.Elements.{All-head}
use Rattle.larch_base.proofs.Members.{contains_one}
use Rattle.larch_term.specs.BuiltIn.{bool_sort}
use Rattle.larch_term.specs.Operator.{PlainOperator}
use Rattle.larch_term.specs.Sorts.{IsTermOver, sort_of}
use Rattle.larch_term.specs.Tree.{Tree}
use Rattle.larch_term.specs.declared.built_in.BuiltIn.TheVariants.{Implies}
use Rattle.larch_term.specs.declared.statement.Statement.{Statement}
use Rattle.larch_term.specs.declared.statement.Statement.TheVariants.{Equation}
use Rattle.larch_term.specs.declared.statement.Theory.{Theory}
use Rattle.larch_calculus.specs.Formula.{falsity, implication}
use Rattle.larch_derive.specs.Builder.{theory_in}
use Rattle.larch_derive.specs.Words.{IsWordedTerm}
use Rattle.larch_derive.specs.declared.builder.Builder.{Builder}
use Rattle.larch_derive.proofs.Words.{known_worded}
use Rattle.larch_methods.specs.DeriveBoxesBoxes.{IsOpen}
use Rattle.larch_methods.specs.RewriteMeaningSides.{AreSidesOver}
use Rattle.larch_methods.specs.ProveMeaningLevels.{Level}
use Rattle.larch_methods.specs.ProveMeaningPlans.{Contradiction, Implication, Plan, Setting}
use Rattle.larch_methods.specs.ProveMeaningPlans.{Subgoal, closed_by, constants_of}
use Rattle.larch_methods.specs.ProveMeaningPlans.{fails, holds, plan, shared_subgoal}
use Rattle.larch_methods.specs.ProvePlansPlanning.{equate}
use Rattle.larch_methods.specs.Methods.{IsKnownFormula}
use Rattle.larch_methods.proofs.Planned.{contradiction_planned, implication_planned}
use Rattle.larch_prove_invariant.specs.Book.{Book, Kept, Running, SupposingBox}
use Rattle.larch_prove_invariant.specs.Holding.{EntersSubgoal, HoldsLevels, IsThere, Shape, Through, entrances}
use Rattle.larch_prove_invariant.specs.Holding.{open_constants, own_shape, premise, said_of, shape_of}
use Rattle.larch_prove_invariant.proofs.Held.{running_is}
use Rattle.larch_prove_invariant.proofs.PlanWords.{closed_worded, implication_worded}
use Rattle.larch_prove_invariant.proofs.Planned.{inside_known}
use Rattle.larch_prove_invariant.proofs.Shared.{is_implication}

-- ---- implications

-- the subgoal of an implication
abbrev subgoal_of_implication : Setting → Tree → Tree → Tree → Subgoal
subgoal_of_implication setting goal p q =
    let cs = constants_of setting.taken goal p in
    shared_subgoal (holds (closed_by p cs p) ∷ []) (closed_by p cs q)

only_implied : (setting : Setting) (goal p q : Tree) (made : Plan) (g : Subgoal) → goal ≡ implication p q
    → plan setting goal Implication ≡ Ok made → Contains made.subgoals g
    → (made.constants ≡ constants_of setting.taken goal p) × (subgoal_of_implication setting goal p q ≡ g)
only_implied setting goal p q made g e h c =
    let m = implication_planned setting goal p q made e h in (
      ap (λ (x : Plan). x.constants) m,
      contains_one (subgoal_of_implication setting goal p q) g (subst (λ (x : Plan). Contains x.subgoals g) m c),
    )

-- the implication of its hypothesis and its goal is the whole goal, with the shared constants in it
pub implication_closed : (setting : Setting) (goal p q : Tree) (made : Plan) (g : Subgoal) → goal ≡ implication p q
    → plan setting goal Implication ≡ Ok made → Contains made.subgoals g
    → implication (premise g.hypotheses) g.goal ≡ closed_by p made.constants goal
implication_closed setting goal p q made g e h c =
    let o = only_implied setting goal p q made g e h c in
    sym (ap (λ (x : Subgoal). implication (premise x.hypotheses) x.goal) o.1)
    ∙ (ap (λ cs. closed_by p cs (implication p q)) (sym o.0) ∙ ap (closed_by p made.constants) (sym e))

implication_over : (fs : List PlainOperator) (p q : Tree) → IsTermOver fs p → sort_of p ≡ bool_sort → IsTermOver fs q
    → sort_of q ≡ bool_sort → IsTermOver fs (implication p q)
implication_over fs p q w s v z = (
  (ap₂ (λ x y. x ∷ y ∷ []) s z, (w.0, (v.0, tt))),
  (inr (Implies, (bool_sort, refl)), (w.1, (v.1, tt))),
)

-- it can be written in the subgoal's box
pub implication_known : (t : Theory) (s : Statement) (b d : Builder) (cs : List PlainOperator) (levels : List Level)
    (k : Kept) (ks : List Kept) (r : Running) (g : Subgoal) (xs : List SupposingBox)
    → HoldsLevels t s b cs levels (k ∷ ks) → k.book.running ≡ Some r → r.method ≡ Implication
    → Contains r.plan.subgoals g → Through b xs d → map shape_of xs ≡ entrances r.method g
    → (said_of r.method g ≡ holds (implication (premise g.hypotheses) g.goal))
    × IsKnownFormula d (implication (premise g.hypotheses) g.goal)
implication_known t s b d cs levels k ks r g xs h e m c n q =
    let l = h.held.1.1.1 in
    let p = (running_is l.outside b k r e l.running).planned in
    let w = subst (λ x. plan r.setting k.level.goal x ≡ Ok r.plan) m p.planned in
    let i = is_implication r.setting k.level.goal r.plan w in
    let only = subgoal_of_implication r.setting k.level.goal i.0.0 i.0.1 in
    let is_only = (only_implied r.setting k.level.goal i.0.0 i.0.1 r.plan g i.1 w c).1 in
    let fs = ((theory_in l.outside).operators ++ open_constants l.outside) ++ (r.plan.constants ++ g.constants) in
    let over = p.over g c in
    let supposed : AreSidesOver fs (holds (premise only.hypotheses)) =
    All-head (AreSidesOver fs) (holds (premise only.hypotheses)) []
    (subst (λ (x : Subgoal). All (AreSidesOver fs) x.hypotheses) (sym is_only) over.0) in
    let concluded : IsTermOver fs only.goal = subst (λ (x : Subgoal). IsTermOver fs x.goal) (sym is_only) over.1.0 in
    let sort : sort_of only.goal ≡ bool_sort = subst (λ (x : Subgoal). sort_of x.goal ≡ bool_sort) (sym is_only)
    over.1.1 in
    let words = subst IsWordedTerm i.1 (known_worded l.outside k.level.goal p.goal_known.known) in
    let constants = (implication_worded r.setting.taken k.level.goal i.0.0 i.0.1 words.1.0 words.1.1.0).constants in
    let whole : Tree = implication (premise only.hypotheses) only.goal in
    let closed = closed_worded i.0.0 (constants_of r.setting.taken k.level.goal i.0.0) (implication i.0.0 i.0.1)
    constants words in
    let known = inside_known t s b d cs levels k ks r g xs h e c n q whole
    (implication_over fs (premise only.hypotheses) only.goal supposed.0 supposed.2 concluded sort) closed in (
      ap (λ x. said_of x g) m,
      subst (λ (x : Subgoal). IsKnownFormula d (implication (premise x.hypotheses) x.goal)) is_only
          (record { known = known; sort = refl }),
    )

-- ---- contradictions

-- the goal is false, and what must be said is that the formula is true of which the open box supposes that it is false
pub contradiction_said : (setting : Setting) (goal : Tree) (r : Running) (k : Book) (c : Builder) (x : SupposingBox)
    → plan setting goal r.method ≡ Ok r.plan → r.method ≡ Contradiction → Contains r.plan.subgoals r.now
    → EntersSubgoal r k → k.entrance ≡ x ∷ [] → IsThere c x
    → (k.first ≡ falsity) × ((said_of r.method r.now ≡ holds (premise r.now.hypotheses))
    × IsOpen c x.box (Equation (premise r.now.hypotheses) falsity ∷ []))
contradiction_said setting goal r k c x e m i h q there =
    let w = subst (λ y. plan setting goal y ≡ Ok r.plan) m e in
    let cs = constants_of setting.taken goal goal in
    let only = shared_subgoal (fails (closed_by goal cs goal) ∷ []) falsity in
    let is_only = contains_one only r.now
    (subst (λ (y : Plan). Contains y.subgoals r.now) (contradiction_planned setting goal r.plan w) i) in
    let shape : shape_of x ∷ [] ≡ own_shape r.now ∷ [] =
    sym (ap (map shape_of) q) ∙ (h.entrance ∙ ap (λ y. entrances y r.now) m) in
    let hypotheses : x.hypotheses ≡ map equate r.now.hypotheses =
    ap (λ (y : Shape). y.hypotheses) (same_shape (shape_of x) (own_shape r.now) shape) in
    let supposed : map equate r.now.hypotheses ≡ Equation (premise r.now.hypotheses) falsity ∷ [] =
    subst (λ (y : Subgoal). map equate y.hypotheses ≡ Equation (premise y.hypotheses) falsity ∷ []) is_only refl in (
      h.first ∙ sym (ap (λ (y : Subgoal). y.goal) is_only),
      (ap (λ y. said_of y r.now) m, subst (IsOpen c x.box) (hypotheses ∙ supposed) there),
    )
  where
    same_shape : (p q : Shape) → p ∷ [] ≡ q ∷ [] → p ≡ q
    same_shape p q e = cc
