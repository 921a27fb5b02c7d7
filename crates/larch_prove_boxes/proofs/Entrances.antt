-- Subgoals are entered.
use Rattle.std.specs.Prelude.{◌≡◌, ℕ, Bool, true, false, if◌then◌else◌, List, [], ◌∷◌, map, Contains}
use Rattle.std.specs.Prelude.{None, Ok, Some, refl}
use Rattle.std.specs.List.{AllZip}
use Rattle.std.proofs.Common.{ap, subst, sym, ◌∙◌}
use Rattle.std.proofs.lemmas.List.Elements.{All-contains}
use Rattle.larch_base.proofs.Members.{contained_in_map}
use Rattle.larch_term.specs.Operator.{PlainOperator}
use Rattle.larch_term.specs.Tree.{Tree}
use Rattle.larch_term.specs.declared.statement.Statement.{Statement}
use Rattle.larch_term.specs.declared.statement.Theory.{Theory}
use Rattle.larch_derive.specs.Predicates.{Extends, Grows, HasEquation, HasStatement, Known}
use Rattle.larch_derive.specs.declared.builder.Builder.{Builder}
use Rattle.larch_derive.specs.declared.open_box.OpenBox.{OpenBox}
use Rattle.larch_derive.proofs.Growth.{extends_grows, extends_trans, grows_same, stays_said}
use Rattle.larch_prove_invariant.specs.DeriveBoxesBoxes.{IsOpen, Opens}
use Rattle.larch_prove_invariant.proofs.DeriveBoxesSupposing.{grown_open, opens_is_open}
use Rattle.larch_prove_invariant.specs.RewriteMeaningSides.{Sides}
use Rattle.larch_prove_invariant.specs.ProveMeaningLevels.{Level}
use Rattle.larch_prove_invariant.specs.ProveMeaningPlans.{Cases, Conjunction, Contradiction}
use Rattle.larch_prove_invariant.specs.ProveMeaningPlans.{Implication, Induction, Method}
use Rattle.larch_prove_invariant.specs.ProveMeaningPlans.{Partition, Subgoal, conjuncts, plan, shared_subgoal}
use Rattle.larch_prove_invariant.specs.ProvePlansPlanning.{equate, subgoal_of}
use Rattle.larch_prove_invariant.specs.ProvePlansSubgoalsSubgoal as stated
use Rattle.larch_prove_invariant.specs.MethodsOpening.{MayBegin, MayOpen}
use Rattle.larch_prove_invariant.proofs.MethodsPlanned.{conjunction_planned}
use Rattle.larch_prove_invariant.specs.Book.{Kept, Running, SupposingBox}
use Rattle.larch_prove_invariant.specs.Holding.{HoldsLevels, IsPlanned, Shape, entrances, own_shape}
use Rattle.larch_prove_invariant.proofs.Begin.{subgoals_may_begin}
use Rattle.larch_prove_invariant.proofs.Held.{running_is}
use Rattle.larch_prove_invariant.proofs.Planned.{subgoal_known}
use Rattle.larch_prove_boxes.specs.Entering.{IsEntrance, IsKnownInside}

-- ---- whether there is a box

abbrev shapes_if : Bool → Subgoal → List Shape
shapes_if b g = if b then own_shape g ∷ [] else []

pub boxed_shape : (method other : Method) (g : Subgoal) (b : Bool) → method ≡ other
    → entrances other g ≡ shapes_if b g → b ≡ true → entrances method g ≡ own_shape g ∷ []
boxed_shape method other g b e q w = ap (λ m. entrances m g) e ∙ (q ∙ ap (λ x. shapes_if x g) w)

pub bare_shape : (method other : Method) (g : Subgoal) (b : Bool) → method ≡ other
    → entrances other g ≡ shapes_if b g → b ≡ false → entrances method g ≡ []
bare_shape method other g b e q w = ap (λ m. entrances m g) e ∙ (q ∙ ap (λ x. shapes_if x g) w)

-- ---- subgoals without a box

-- conjunctions alone open none
pub bare_is_conjunction : (method : Method) (g : Subgoal) → entrances method g ≡ [] → method ≡ Conjunction
bare_is_conjunction (Cases f) g e = cc
bare_is_conjunction Implication g e = cc
bare_is_conjunction Conjunction g e = refl
bare_is_conjunction Contradiction g e = cc
bare_is_conjunction (Induction n) g e = cc
bare_is_conjunction Partition g e = cc

-- and their subgoals suppose nothing
nothing_supposed : (a b : Builder) (goal : Tree) (r : Running) (g : Subgoal) → IsPlanned a b goal r
    → Contains r.plan.subgoals g → entrances r.method g ≡ [] → g.hypotheses ≡ []
nothing_supposed a b goal r g p c e =
    let q = subst (λ m. plan r.setting goal m ≡ Ok r.plan) (bare_is_conjunction r.method g e) p.planned in
    let found = contained_in_map (shared_subgoal []) (conjuncts goal) g
    (subst (λ ss. Contains ss g) (conjunction_planned r.setting goal r.plan q) c) in
    sym (ap (λ (s : Subgoal). s.hypotheses) found.2)

pub bare_supposes_nothing : (t : Theory) (s : Statement) (b : Builder) (cs : List PlainOperator) (levels : List Level)
    (k : Kept) (ks : List Kept) (r : Running) (g : Subgoal) → HoldsLevels t s b cs levels (k ∷ ks)
    → k.book.running ≡ Some r → Contains r.plan.subgoals g → entrances r.method g ≡ [] → g.hypotheses ≡ []
bare_supposes_nothing t s b cs levels k ks r g h e c q =
    let l = h.held.1.1.1 in
    nothing_supposed l.outside b k.level.goal r g (running_is l.outside b k r e l.running).planned c q

-- what a line says of its goal, where the builder grew
pub bare_entrance : (a b : Builder) (method : Method) (g : Subgoal) (goal : Tree) (lines : List ℕ) (way : ℕ)
    → goal ≡ g.goal → g.hypotheses ≡ [] → entrances method g ≡ [] → lines ≡ [] → Grows a b
    → HasEquation b way goal goal
    → IsEntrance a b method g (record { opened = None; hypotheses = lines; way = way })
bare_entrance a b method g goal lines way e q h w x s =
    record {
      boxes = [];
      opened = refl;
      shapes = sym h;
      through = x;
      hypotheses = subst (λ hs. AllZip (λ (h : Sides) n. HasEquation b n h.left h.right) hs lines) (sym q)
          (subst (λ ns. AllZip (λ (h : Sides) n. HasEquation b n h.left h.right) [] ns) (sym w) tt);
      way = subst (λ t. HasEquation b way t t) e s;
    }

-- ---- subgoals in a box

pub subgoal_begins : (t : Theory) (s : Statement) (b : Builder) (cs : List PlainOperator) (levels : List Level)
    (k : Kept) (ks : List Kept) (r : Running) (g : Subgoal) → HoldsLevels t s b cs levels (k ∷ ks)
    → k.book.running ≡ Some r → Contains r.plan.subgoals g → MayBegin b g
subgoal_begins t s b cs levels k ks r g h e c =
    All-contains (MayBegin b) r.plan.subgoals g (subgoals_may_begin t s b k ks r h.held e) c

pub goal_inside : (t : Theory) (s : Statement) (b : Builder) (cs : List PlainOperator) (levels : List Level)
    (k : Kept) (ks : List Kept) (r : Running) (g : Subgoal) → HoldsLevels t s b cs levels (k ∷ ks)
    → k.book.running ≡ Some r → Contains r.plan.subgoals g → entrances r.method g ≡ own_shape g ∷ []
    → IsKnownInside b g
goal_inside t s b cs levels k ks r g h e c q d x m w =
    (subgoal_known t s b d cs levels k ks r g (x ∷ []) h e c m (ap (λ y. y ∷ []) w ∙ sym q)).known

pub goal_there : (t : Theory) (s : Statement) (b : Builder) (cs : List PlainOperator) (levels : List Level)
    (k : Kept) (ks : List Kept) (r : Running) (g : Subgoal) → HoldsLevels t s b cs levels (k ∷ ks)
    → k.book.running ≡ Some r → Contains r.plan.subgoals g → entrances r.method g ≡ [] → Known b g.goal
goal_there t s b cs levels k ks r g h e c q =
    (subgoal_known t s b b cs levels k ks r g [] h e c (grows_same b b refl) (sym q)).known

sides_said : (b : Builder) (hs : List Sides) (ns : List ℕ) → AllZip (λ s n. HasStatement b n s) (map equate hs) ns
    → AllZip (λ (h : Sides) n. HasEquation b n h.left h.right) hs ns
sides_said b [] [] z = z
sides_said b [] (n ∷ ns) z = z
sides_said b (h ∷ hs) [] z = z
sides_said b (h ∷ hs) (n ∷ ns) (p, z) = (p, sides_said b hs ns z)

-- The steps of the code: a box is opened, a line says that the goal equals itself, and lines say the hypotheses.
pub record Steps (a d w b : Builder) (x : OpenBox) (lines : List ℕ) (way : ℕ) (s : stated.Subgoal) : Type 0 where
  pub constants : x.constants ≡ s.constants
  pub opens : MayOpen a s.constants s.hypotheses → Opens a d x s.hypotheses
  pub says : Known d s.goal → HasEquation w way s.goal s.goal
  pub goes : Known d s.goal → Extends d w
  pub supposes : IsOpen w x s.hypotheses → AllZip (λ h n. HasStatement b n h) s.hypotheses lines
  pub extends : IsOpen w x s.hypotheses → Extends w b

-- they enter the subgoal
pub box_entrance : (a d w b : Builder) (x : OpenBox) (method : Method) (s : stated.Subgoal) (g : Subgoal)
    (lines : List ℕ) (way : ℕ) → Steps a d w b x lines way s → s ≡ subgoal_of g
    → entrances method g ≡ own_shape g ∷ [] → MayBegin a g → IsKnownInside a g
    → IsEntrance a b method g (record { opened = Some x; hypotheses = lines; way = way })
box_entrance a d w b x method s g lines way step e q m k =
    let steps : Steps a d w b x lines way (subgoal_of g) = subst (Steps a d w b x lines way) e step in
    let hs = map equate g.hypotheses in
    let box : SupposingBox = record { box = x; hypotheses = hs } in
    let shape = ap (λ cs. own_shape (record g { constants = cs })) steps.constants in
    let o = steps.opens m in
    let known = k d box (a, (d, (grows_same a a refl, (o, grows_same d d refl)))) shape in
    let there = grown_open d w x hs (extends_grows d w (steps.goes known)) (opens_is_open a d x hs o) in
    let grows = extends_grows d b (extends_trans d w b (steps.goes known) (steps.extends there)) in
    record {
      boxes = box ∷ [];
      opened = refl;
      shapes = ap (λ y. y ∷ []) shape ∙ sym q;
      through = (a, (d, (grows_same a a refl, (o, grows))));
      hypotheses = sides_said b g.hypotheses lines (steps.supposes there);
      way = stays_said w b way _ (steps.extends there) (steps.says known);
    }
