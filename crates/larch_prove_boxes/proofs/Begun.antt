-- The lowest level begins: for an equation, and for clauses.
use Rattle.std.specs.Prelude.{◌≡◌, ◌≢◌, ◌+◌, ◌-◌, ◌<◌, ℕ, zero, suc, List, [], ◌∷◌, ◌++◌, cond, length, map}
use Rattle.std.specs.Prelude.{All}
use Rattle.std.specs.Prelude.{None, Some, refl}
use Rattle.std.specs.List.{slice_get}
use Rattle.std.proofs.Common.{add-one, ap, arith, inl, inr, ne_eqb, subst, sym, ◌∙◌}
use Rattle.std.proofs.lemmas.List.{append-nil}
use Rattle.std.proofs.lemmas.List.Elements.{All-cons, All-nil}
use Rattle.larch_base.specs.ByNumber.{numbered}
use Rattle.larch_base.proofs.Members.{contains_here, contains_later, contains_right}
use Rattle.larch_term.specs.Operator.{PlainOperator}
use Rattle.larch_term.specs.Sorts.{IsTermOver}
use Rattle.larch_term.specs.Statement.{IsStatementOver}
use Rattle.larch_term.specs.Tree.{Tree}
use Rattle.larch_term.specs.declared.built_in.BuiltIn.TheVariants.{Equal}
use Rattle.larch_term.specs.declared.statement.Statement.{Statement}
use Rattle.larch_term.specs.declared.statement.Statement.TheVariants.{Equation, Generated, Partitioned}
use Rattle.larch_term.specs.declared.statement.Theory.{Theory}
use Rattle.larch_calculus.specs.Formula.{formula}
use Rattle.larch_calculus.specs.Theories.{AreNew}
use Rattle.larch_derive.specs.CertificateTextLineText.{IsWord}
use Rattle.larch_derive.specs.Builder.{theory_in}
use Rattle.larch_derive.specs.Predicates.{AreOthers, Extends, HasEquation, HasNoBadLine, HasStatement, Known}
use Rattle.larch_derive.specs.Words.{IsWordedStatement, IsWordedTerm}
use Rattle.larch_derive.specs.declared.builder.Builder.{Builder}
use Rattle.larch_derive.specs.declared.open_box.OpenBox.{OpenBox}
use Rattle.larch_derive.proofs.Growth.{extends_grows, extends_trans, grows_same, stays_said}
use Rattle.larch_derive.proofs.Start.{known_own as known_there}
use Rattle.larch_prove_invariant.specs.DeriveBoxesBoxes.{IsOpen, IsPart, Opens}
use Rattle.larch_prove_invariant.proofs.DeriveBoxesInside.{known_own, opened_known_inside}
use Rattle.larch_prove_invariant.proofs.DeriveBoxesSupposing.{grown_open, opens_is_open}
use Rattle.larch_prove_invariant.specs.ProveMeaningNewNames.{constant_named}
use Rattle.larch_prove_invariant.proofs.ProveMeaningPartitionPlans.{formula_over}
use Rattle.larch_prove_invariant.specs.ProvePlansClauseGoals.{generation_goal, partition_goal, predicate_named}
use Rattle.larch_prove_invariant.specs.ProvePlansSubgoalsSubgoal as stated
use Rattle.larch_prove_invariant.specs.MethodsOpening.{MayOpen}
use Rattle.larch_prove_invariant.proofs.MethodsBegun.{generation_begins, partition_goal_begins}
use Rattle.larch_prove_boxes.specs.Lowest.{AreSaidBy, IsBegun}
use Rattle.larch_prove_boxes.specs.BoxLists.{box_list}
use Rattle.larch_prove_boxes.specs.declared.beginning.Beginning.{Beginning}
use Rattle.larch_prove_invariant.specs.Book.{Book, SupposingBox}
use Rattle.larch_prove_invariant.specs.Holding.{Begins, EntersClause, IsStart, Shape, shape_of}
use Rattle.larch_prove_invariant.proofs.Own.{new_are_others}
use Rattle.larch_prove_invariant.proofs.PlanWords.{formula_worded}

-- ---- an equation

formula_known : (t : Theory) (a : Builder) (l r : Tree) → IsStart t a → IsStatementOver t.operators (Equation l r)
    → IsWordedStatement (Equation l r) → Known a (formula l r)
formula_known t a l r start over words =
    known_there a (formula l r) start.stands
    (subst (λ (u : Theory). IsTermOver u.operators (formula l r)) (sym start.theory)
    (formula_over t.operators l r over.0 over.1 over.2).0) (formula_worded l r words.0 words.1)

pub equation_begun : (t : Theory) (a b : Builder) (l r : Tree) (m : Beginning) → IsStart t a
    → IsStatementOver t.operators (Equation l r) → IsWordedStatement (Equation l r) → m.entrance ≡ None
    → m.hypotheses ≡ [] → m.first ≡ formula l r → (Known a m.first → HasEquation b m.way m.first m.first)
    → (Known a m.first → Extends a b) → IsBegun a b (Equation l r) m
equation_begun t a b l r m start over words none bare e says further =
    let k = subst (Known a) (sym e) (formula_known t a l r start over words) in
    record {
      boxes = [];
      boxes_are = sym (ap box_list none);
      through = extends_grows a b (further k);
      begins = λ j p q. (p ∙ e, q);
      hypotheses = subst (AreSaidBy b []) (sym bare) tt;
      way = says k;
    }

-- ---- the lines of hypotheses

at_place : (hs : List Statement) (i : ℕ) → i < length hs → (h : Statement) × (slice_get hs i ≡ Some h)
at_place [] i lt = absurd (omega arith)
at_place (h ∷ hs) zero lt = (h, refl)
at_place (h ∷ hs) (suc i) lt = at_place hs i (omega arith)

next_number : (hs : List Statement) (i : ℕ) (h : Statement) → slice_get hs i ≡ Some h → numbered hs (i + 1) ≡ Some h
next_number hs i h e =
    let p : suc i - 1 ≡ i = omega arith in
    subst (λ k. numbered hs k ≡ Some h) (sym (add-one i))
    (ap (λ b. cond b None (slice_get hs (suc i - 1))) (ne_eqb (suc i) 0 (λ q. omega (arith, q)))
    ∙ (ap (slice_get hs) p ∙ e))

says_stay : (b c : Builder) (hs : List Statement) (ns : List ℕ) → Extends b c → AreSaidBy b hs ns → AreSaidBy c hs ns
says_stay b c [] [] x h = h
says_stay b c [] (n ∷ ns) x h = h
says_stay b c (s ∷ hs) [] x h = h
says_stay b c (s ∷ hs) (n ∷ ns) x h = (stays_said b c n s x h.0, says_stay b c hs ns x h.1)

one_said : (b : Builder) (hs : List Statement) (ns : List ℕ) (h : Statement) (n : ℕ) → AreSaidBy b hs ns
    → HasStatement b n h → AreSaidBy b (hs ++ h ∷ []) (ns ++ n ∷ [])
one_said b [] [] h n z w = (w, tt)
one_said b [] (k ∷ ns) h n z w = absurd z
one_said b (s ∷ hs) [] h n z w = absurd z
one_said b (s ∷ hs) (k ∷ ns) h n z w = (z.0, one_said b hs ns h n z.1 w)

-- ---- a clause

-- what the calls that begin a clause's level do: the box is opened, a line says that the goal equals itself, and others
-- say the hypotheses
pub record IsWritten (a b c d : Builder) (g : stated.Subgoal) (m : Beginning) (x : OpenBox) : Type 0 where
  pub opens : MayOpen a g.constants g.hypotheses → Opens a b x g.hypotheses
  pub constants : x.constants ≡ g.constants
  pub entrance : m.entrance ≡ Some x
  pub first : m.first ≡ g.goal
  pub way : Known b m.first → HasEquation c m.way m.first m.first
  pub further : Known b m.first → Extends b c
  pub says : (y : OpenBox) → y.number ≡ x.number → IsOpen c y g.hypotheses → AreSaidBy d g.hypotheses m.hypotheses
  pub extends : (y : OpenBox) → y.number ≡ x.number → IsOpen c y g.hypotheses → Extends c d

pub written_so : (a b c d : Builder) (g : stated.Subgoal) (m : Beginning) (x : OpenBox) (hs : List Statement)
    → (MayOpen a g.constants g.hypotheses → Opens a b x g.hypotheses) → x.constants ≡ g.constants
    → m.entrance ≡ Some x → m.first ≡ g.goal → (Known b m.first → HasEquation c m.way m.first m.first)
    → (Known b m.first → Extends b c) → hs ≡ g.hypotheses
    → ((y : OpenBox) → y.number ≡ x.number → IsOpen c y hs → AreSaidBy d hs m.hypotheses)
    → ((y : OpenBox) → y.number ≡ x.number → IsOpen c y hs → Extends c d) → IsWritten a b c d g m x
written_so a b c d g m x hs opens constants entrance first way further e says extends = record {
  opens = opens;
  constants = constants;
  entrance = entrance;
  first = first;
  way = way;
  further = further;
  says = subst (λ ks. (y : OpenBox) → y.number ≡ x.number → IsOpen c y ks → AreSaidBy d ks m.hypotheses) e says;
  extends = subst (λ ks. (y : OpenBox) → y.number ≡ x.number → IsOpen c y ks → Extends c d) e extends;
}

clause_begun : (a b c d : Builder) (s : Statement) (g : stated.Subgoal) (m : Beginning) (x : OpenBox)
    → IsWritten a b c d g m x → MayOpen a g.constants g.hypotheses → (Opens a b x g.hypotheses → Known b g.goal)
    → ((k : Book) → EntersClause g k → Begins s k) → IsBegun a d s m
clause_begun a b c d s g m x w may goal enters =
    let y : SupposingBox = record { box = x; hypotheses = g.hypotheses } in
    let o = w.opens may in
    let known = subst (Known b) (sym w.first) (goal o) in
    let e = w.further known in
    let there = grown_open b c x g.hypotheses (extends_grows b c e) (opens_is_open a b x g.hypotheses o) in
    let q = w.extends x refl there in
    let shaped : List PlainOperator → List Shape =
    λ cs. record { constants = cs; hypotheses = g.hypotheses } ∷ [] in
    record {
      boxes = y ∷ [];
      boxes_are = sym (ap box_list w.entrance);
      through = (a, (b, (grows_same a a refl, (o, extends_grows b d (extends_trans b c d e q)))));
      begins = λ k p r. enters k (record {
        first = p ∙ w.first;
        entrance = ap (map shape_of) r
            ∙ ap shaped w.constants;
      });
      hypotheses = subst (λ hs. AreSaidBy d hs m.hypotheses) (sym (append-nil g.hypotheses)) (w.says x refl there);
      way = stays_said c d m.way (Equation m.first m.first) q (w.way known);
    }

over_there : (t : Theory) (a : Builder) (u : Statement) → IsStart t a → IsStatementOver t.operators u
    → IsStatementOver (theory_in a).operators u
over_there t a u h w = subst (λ (v : Theory). IsStatementOver v.operators u) (sym h.theory) w

others_there : (t : Theory) (a : Builder) (cs : List PlainOperator) → IsStart t a → AreNew t cs
    → AreOthers (theory_in a) cs
others_there t a cs h w = subst (λ v. AreOthers v cs) (sym h.theory) (new_are_others t cs w)

generation_known : (a b : Builder) (x : OpenBox) (n z : List ℕ) (fs : List PlainOperator) (hs : List Statement)
    → HasNoBadLine a → AreOthers (theory_in a) (predicate_named n z ∷ []) → x.constants ≡ predicate_named n z ∷ []
    → IsWord z → Opens a b x hs → Known b (generation_goal n z fs).goal
generation_known a b x n z fs hs st others e w o =
    let f = predicate_named n z in
    let own = (theory_in a).operators in
    let goal = (generation_goal n z fs).goal in
    let over : IsTermOver (own ++ f ∷ []) goal =
    ((refl, (tt, tt)), (inl (contains_right own (f ∷ []) f (contains_here f [])), (tt, tt))) in
    let words : IsWordedTerm goal = (((w, tt), refl), ((refl, w), tt)) in
    opened_known_inside a b x hs goal o
    (known_own a x goal st (subst (AreOthers (theory_in a)) (sym e) others)
    (subst (All IsPart) (sym e) (All-cons IsPart f [] (inr (z, refl, refl)) (All-nil IsPart)))
    (subst (λ cs. IsTermOver (own ++ cs) goal) (sym e) over) words)

pub generation_begun : (t : Theory) (a b c d : Builder) (g : stated.Subgoal) (m : Beginning) (x : OpenBox)
    (n z : List ℕ) (fs : List PlainOperator) → IsWritten a b c d g m x → IsStart t a → g ≡ generation_goal n z fs
    → AreNew t g.constants → IsStatementOver t.operators (Generated z fs) → IsWordedStatement (Generated z fs)
    → IsBegun a d (Generated z fs) m
generation_begun t a b c d g m x n z fs w start e new over words =
    let f = predicate_named n z in
    let others = others_there t a (f ∷ []) start (subst (λ (h : stated.Subgoal). AreNew t h.constants) e new) in
    clause_begun a b c d (Generated z fs) g m x w
    (subst (λ (h : stated.Subgoal). MayOpen a h.constants h.hypotheses) (sym e)
    (generation_begins a n z fs start.stands others (over_there t a (Generated z fs) start over) words))
    (λ o. subst (λ (h : stated.Subgoal). Known b h.goal) (sym e)
    (generation_known a b x n z fs g.hypotheses start.stands others
    (w.constants ∙ ap (λ (h : stated.Subgoal). h.constants) e) words.0 o))
    (λ k h. (n, subst (λ y. EntersClause y k) e h))

partition_known : (a b : Builder) (x : OpenBox) (n p z : List ℕ) (os : List PlainOperator) (hs : List Statement)
    → HasNoBadLine a → AreOthers (theory_in a) (constant_named n z ∷ constant_named p z ∷ [])
    → x.constants ≡ constant_named n z ∷ constant_named p z ∷ [] → IsWord z → Opens a b x hs
    → Known b (partition_goal n p z os).goal
partition_known a b x n p z os hs st others e w o =
    let f = constant_named n z in
    let g = constant_named p z in
    let own = (theory_in a).operators in
    let goal = (partition_goal n p z os).goal in
    let over : IsTermOver (own ++ f ∷ g ∷ []) goal = (
      (refl, ((refl, tt), ((refl, tt), tt))),
      (
        inr (Equal, (z, refl)),
        (
          (inl (contains_right own (f ∷ g ∷ []) f (contains_here f (g ∷ []))), tt),
          ((inl (contains_right own (f ∷ g ∷ []) g (contains_later f g (g ∷ []) (contains_here g []))), tt), tt),
        ),
      ),
    ) in
    let words : IsWordedTerm goal = (((w, (w, tt)), refl), (((tt, w), tt), (((tt, w), tt), tt))) in
    opened_known_inside a b x hs goal o
    (known_own a x goal st (subst (AreOthers (theory_in a)) (sym e) others)
    (subst (All IsPart) (sym e) (All-cons IsPart f (g ∷ []) (inl refl) (All-cons IsPart g [] (inl refl)
    (All-nil IsPart)))) (subst (λ cs. IsTermOver (own ++ cs) goal) (sym e) over) words)

pub partition_begun : (t : Theory) (a b c d : Builder) (g : stated.Subgoal) (m : Beginning) (x : OpenBox)
    (n p z : List ℕ) (os : List PlainOperator) → IsWritten a b c d g m x → IsStart t a → g ≡ partition_goal n p z os
    → n ≢ p → AreNew t g.constants → IsStatementOver t.operators (Partitioned z os)
    → IsWordedStatement (Partitioned z os) → IsBegun a d (Partitioned z os) m
partition_begun t a b c d g m x n p z os w start e differ new over words =
    let others = others_there t a (constant_named n z ∷ constant_named p z ∷ []) start
    (subst (λ (h : stated.Subgoal). AreNew t h.constants) e new) in
    clause_begun a b c d (Partitioned z os) g m x w
    (subst (λ (h : stated.Subgoal). MayOpen a h.constants h.hypotheses) (sym e)
    (partition_goal_begins a n p z os start.stands others (over_there t a (Partitioned z os) start over) words))
    (λ o. subst (λ (h : stated.Subgoal). Known b h.goal) (sym e)
    (partition_known a b x n p z os g.hypotheses start.stands others
    (w.constants ∙ ap (λ (h : stated.Subgoal). h.constants) e) words.0 o))
    (λ k h. (n, (p, (differ, subst (λ y. EntersClause y k) e h))))
