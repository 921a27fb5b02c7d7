-- The box by which a level was entered is closed: of a subgoal, or of a clause.
use Rattle.std.specs.Prelude.{◌≡◌, ◌≢◌, ℕ, List, [], ◌∷◌, map, All, AllPairs, None, refl}
use Rattle.std.proofs.Common.{ap, arith, subst, sym, ◌∙◌}
use Rattle.std.proofs.lemmas.List.Elements.{All-cons, All-nil}
use Rattle.std.proofs.lemmas.List.Kept.{AllPairs-cons}
use Rattle.larch_term.specs.Operator.{PlainOperator, plain}
use Rattle.larch_term.specs.Statement.{IsStatementOver}
use Rattle.larch_term.specs.Truth.{truth}
use Rattle.larch_term.specs.declared.statement.Statement.{Statement}
use Rattle.larch_term.specs.declared.statement.Statement.TheVariants.{Equation, Generated, Partitioned}
use Rattle.larch_term.specs.declared.statement.Theory.{Theory}
use Rattle.larch_derive.specs.Builder.{boxes_in, theory_in}
use Rattle.larch_derive.specs.OpenBox.{constant_of}
use Rattle.larch_derive.specs.Predicates.{HasEquation}
use Rattle.larch_derive.specs.declared.builder.Builder.{Builder}
use Rattle.larch_derive.specs.declared.open_box.OpenBox.{OpenBox}
use Rattle.larch_methods.specs.DeriveBoxesBoxes.{AreOwnConstants, HasResult}
use Rattle.larch_methods.specs.ProveMeaningNewNames.{constant_named}
use Rattle.larch_methods.specs.ProveMeaningPlans.{Cases, Conjunction, Contradiction, Implication, Induction, Method}
use Rattle.larch_methods.specs.ProveMeaningPlans.{Partition}
use Rattle.larch_methods.specs.ProveMeaningPlans.{Subgoal}
use Rattle.larch_methods.specs.ProvePlansClauseGoals.{generation_goal, partition_goal, predicate_named}
use Rattle.larch_methods.specs.ProvePlansSubgoalsSubgoal as stated
use Rattle.larch_methods.specs.Clauses.{IsSupposing}
use Rattle.larch_methods.proofs.Left.{generation_left, partition_goal_left}
use Rattle.larch_prove_invariant.specs.Book.{AtLine, Book, InBox, Running, SupposingBox}
use Rattle.larch_prove_invariant.specs.Ending.{EndsGeneration, EndsPartition}
use Rattle.larch_prove_invariant.specs.Holding.{EntersClause, EntersSubgoal, HasLeft, IsStart, Shape, entrances}
use Rattle.larch_prove_invariant.specs.Holding.{own_shape, said_of, shape_of, stated_shape}
use Rattle.larch_prove_invariant.specs.Leaving.{Leaving}
use Rattle.larch_prove_invariant.proofs.Left.{leaving_opened, left_levels}
use Rattle.larch_prove_invariant.proofs.Shared.{shapes_one}

-- ---- subgoals

entrance_is : (method : Method) (s : Subgoal) (h : Shape) → h ∷ [] ≡ entrances method s
    → (entrances method s ≡ own_shape s ∷ []) × (h ≡ own_shape s)
entrance_is (Cases f) s h e = (refl, cc)
entrance_is Implication s h e = (refl, cc)
entrance_is Conjunction s h e = cc
entrance_is Contradiction s h e = (refl, cc)
entrance_is (Induction n) s h e = (refl, cc)
entrance_is Partition s h e = (refl, cc)

-- in its box
pub box_left : (c : Builder) (r : Running) (k : Book) (x : SupposingBox) → EntersSubgoal r k → k.entrance ≡ x ∷ []
    → HasResult c x.box x.hypotheses (Equation (said_of r.method r.now).left (said_of r.method r.now).right)
    → HasLeft c r.method r.now (InBox x.box)
box_left c r k x e q h =
    let i = entrance_is r.method r.now (shape_of x) (sym (ap (map shape_of) q) ∙ e.entrance) in (
      i.0,
      record {
        constants = ap (λ (z : Shape). z.constants) i.1;
        result = subst (λ hs. HasResult c x.box hs
            (Equation (said_of r.method r.now).left (said_of r.method r.now).right)) (ap (λ
            (z : Shape). z.hypotheses) i.1) h;
      },
    )

-- or without one
pub line_left : (c : Builder) (r : Running) (k : Book) (n : ℕ) → EntersSubgoal r k → k.entrance ≡ []
    → HasEquation c n (said_of r.method r.now).left (said_of r.method r.now).right
    → HasLeft c r.method r.now (AtLine n)
line_left c r k n e q h = (sym e.entrance ∙ ap (map shape_of) q, h)

-- ---- clauses

-- outside of the box of a clause, which is the only one
record IsAround (t : Theory) (s : Statement) (b : Builder) (g : stated.Subgoal) (k : Book) : Type 0 where
  box : SupposingBox
  alone : k.entrance ≡ box ∷ []
  outside : Builder
  leaving : Leaving t s outside [] []
  constants : box.box.constants ≡ g.constants
  supposing : IsSupposing outside b box.box g.hypotheses
  start : IsStart t outside

around_clause : (t : Theory) (s : Statement) (b : Builder) (g : stated.Subgoal) (k : Book) → EntersClause g k
    → Leaving t s b k.entrance [] → IsAround t s b g k
around_clause t s b g k e l =
    let o = shapes_one k.entrance (stated_shape g) e.entrance in
    let i = leaving_opened t s b [] o.0 [] (subst (λ xs. Leaving t s b xs []) o.1.0 l) in
    record {
      box = o.0;
      alone = o.1.0;
      outside = i.0;
      leaving = i.1.0;
      constants = ap (λ (z : Shape). z.constants) o.1.1;
      supposing = subst (IsSupposing i.0 b o.0.box) (ap (λ (z : Shape). z.hypotheses) o.1.1) i.1.1;
      start = left_levels t s i.0 [] i.1.0;
    }

over_there : (t : Theory) (a : Builder) (u : Statement) → IsStart t a → IsStatementOver t.operators u
    → IsStatementOver (theory_in a).operators u
over_there t a u h w = subst (λ (v : Theory). IsStatementOver v.operators u) (sym h.theory) w

pub generation_ends : (t : Theory) (s : Statement) (b : Builder) (n z : List ℕ) (fs : List PlainOperator) (k : Book)
    (line : ℕ) → EntersClause (generation_goal n z fs) k → Leaving t s b k.entrance []
    → IsStatementOver t.operators (Generated z fs) → HasEquation b line k.first truth
    → EndsGeneration t s b z fs k.entrance line
generation_ends t s b n z fs k line e l w h =
    let i = around_clause t s b (generation_goal n z fs) k e l in
    record {
      box = i.box;
      alone = i.alone;
      outside = i.outside;
      leaving = i.leaving;
      shown = generation_left i.outside b i.box.box n z fs line i.constants i.supposing
          (ap (λ bs. constant_of bs (predicate_named n z)) i.start.boxes)
          (over_there t i.outside (Generated z fs) i.start w) (subst (λ g. HasEquation b line g truth) e.first h);
    }

two_own : (n m z : List ℕ) (bs : List OpenBox) (x : OpenBox) → n ≢ m → bs ≡ []
    → x.constants ≡ constant_named n z ∷ constant_named m z ∷ [] → AreOwnConstants bs x
two_own n m z bs x d e q =
    let c = constant_named n z in
    let b = constant_named m z in
    let T : PlainOperator → Type 0 = λ (f : PlainOperator). f.domain ≡ [] in
    let N : PlainOperator → Type 0 = λ f. constant_of bs f ≡ None in
    let none = λ (f : PlainOperator). ap (λ cs. constant_of cs f) e in
    record {
      constants = subst (All T) (sym q) (All-cons T c (b ∷ []) refl (All-cons T b [] refl (All-nil T)));
      different = subst (AllPairs (λ f g. f ≢ g)) (sym q)
          (AllPairs-cons (λ f g. f ≢ g) c (b ∷ [])
          (All-cons (λ g. c ≢ g) b [] (λ p. d (names_same n m (ap (λ (f : PlainOperator). f.name) p)))
          (All-nil (λ g. c ≢ g))) (λ i j f l w. absurd (omega (arith, l, w))));
      outer = subst (All N) (sym q) (All-cons N c (b ∷ []) (none c) (All-cons N b [] (none b) (All-nil N)));
    }
  where
    names_same : (n m : List ℕ) → plain n ≡ plain m → n ≡ m
    names_same n m p = cc

pub partition_ends : (t : Theory) (s : Statement) (b : Builder) (n m z : List ℕ) (os : List PlainOperator) (k : Book)
    (line : ℕ) → n ≢ m → EntersClause (partition_goal n m z os) k → Leaving t s b k.entrance []
    → IsStatementOver t.operators (Partitioned z os) → HasEquation b line k.first truth
    → EndsPartition t s b z os k.entrance line
partition_ends t s b n m z os k line d e l w h =
    let i = around_clause t s b (partition_goal n m z os) k e l in
    record {
      box = i.box;
      alone = i.alone;
      outside = i.outside;
      leaving = i.leaving;
      shown = partition_goal_left i.outside b i.box.box n m z os line i.constants i.supposing
          (two_own n m z (boxes_in i.outside) i.box.box d i.start.boxes i.constants)
          (over_there t i.outside (Partitioned z os) i.start w) (subst (λ g. HasEquation b line g truth) e.first h);
    }
