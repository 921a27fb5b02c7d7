-- The levels of a proof stay well sorted where goals are opened and proved.
use Rattle.std.specs.Prelude.{◌≡◌, ◌+◌, ℕ, Bool, true, false, List, [], ◌∷◌, ◌++◌, All, Contains, Result, Ok, Err}
use Rattle.std.specs.Prelude.{refl}
use Rattle.std.specs.List.{flat_map}
use Rattle.std.proofs.Common.{inl, inr, ap, subst, ◌∙◌}
use Rattle.std.proofs.lemmas.List.Elements.{All-weaker, All-cons, All-nil, All-head, All-tail}
use Rattle.larch_base.specs.declared.code.Code.{Code}
use Rattle.larch_base.specs.declared.fact_name.FactLetter.TheVariants.{Derived, Hypothesis}
use Rattle.larch_base.specs.declared.fact_name.FactName.{FactName}
use Rattle.larch_base.proofs.Lists.{all_from}
use Rattle.larch_base.proofs.Members.{contains_left, contains_right, contains_either, contains_flat_map}
use Rattle.larch_base.proofs.Members.{contained_in_map}
use Rattle.larch_term.specs.Operator.{PlainOperator}
use Rattle.larch_term.specs.Tree.{Tree}
use Rattle.larch_term.specs.declared.statement.Theory.{Theory}
use Rattle.larch_base_meaning.specs.Steps.{after}
use Rattle.larch_rewrite_meaning.proofs.CalculusSorted.{Knows, term_over_more}
use Rattle.larch_sorts_meaning.specs.Scope.{Variables}
use Rattle.larch_pairs_critical.specs.Overlap.{IsApplication}
use Rattle.larch_rewrite_meaning.specs.NormalForm.{normal}
use Rattle.larch_rewrite_meaning.specs.Sides.{Sides, AreSidesOver}
use Rattle.larch_rewrite_meaning.specs.Work.{Work, Made, OverLimit, OverSize}
use Rattle.larch_rewrite_meaning.proofs.SortsKept.{normal_keeps}
use Rattle.larch_prove_meaning.specs.Facts.{Manner, Fact, Facts, add, rules_of, whole_name}
use Rattle.larch_prove_meaning.specs.Levels.{EarlierDuty, Level, Next, OfDuty, OfProof, OfSubgoal, Proof, Purpose}
use Rattle.larch_prove_meaning.specs.Levels.{added_by, all_constants, all_serve, all_supposed, begun, derive}
use Rattle.larch_prove_meaning.specs.Levels.{derived_by, is_settled, level_for, normal_goal, open_subgoal, opened_from}
use Rattle.larch_prove_meaning.specs.Levels.{rise, settle_goal, suppose, unless, with_constants, with_facts, with_goal}
use Rattle.larch_prove_meaning.specs.Levels.{with_mark, work_result}
use Rattle.larch_prove_meaning.specs.Plans.{IsFormulaOver, IsPlanOver, IsSubgoalOver, Plan, Subgoal, holds}
use Rattle.larch_prove_meaning.specs.WellSorted.{AreNamedApart, IsFactOver, IsLevelOver, IsPurposeOver}
use Rattle.larch_prove_meaning.proofs.AddingSorts.{add_over, truth_over}
use Rattle.larch_prove_meaning.proofs.Applications.{add_applications}

-- ---- steps that aren't refused

-- two answers of a step are one
abbrev pub Answers : (A : Type 0) → Result A Code → Result A Code → Type 0
Answers A x y = x ≡ y

pub ok_inj : {A : Type 0} {x y : A} → Answers A (Ok x) (Ok y) → x ≡ y
ok_inj e = cc

-- what comes after a step
pub record Between {A B E : Type 0} (x : Result A E) (next : A → Result B E) (z : B) : Type 0 where
  pub made : A
  pub first : x ≡ Ok made
  pub second : next made ≡ Ok z

pub between : {A B E : Type 0} (x : Result A E) (next : A → Result B E) (z : B) → after x next ≡ Ok z
    → Between x next z
between (Ok y) next z e = record { made = y; first = refl; second = e }
between (Err c) next z e = cc

pub unless_passed : {A : Type 0} (code : Code) (b : Bool) (x : Result A Code) (y : A) → unless code b x ≡ Ok y
    → x ≡ Ok y
unless_passed code true x y e = e
unless_passed code false x y e = cc

pub either_way : (P : Proof → Type 0) (b : Bool) (x y : Result Proof Code) (r : Proof) → (Answers Proof x (Ok r) → P r)
    → (Answers Proof y (Ok r) → P r) → Answers Proof (elim b [ true ↦ x | false ↦ y ]) (Ok r) → P r
either_way P true x y r h k e = h e
either_way P false x y r h k e = k e

-- work that isn't refused is done
work_done : {A : Type 0} (w : Work A) (a : A) → work_result w ≡ Ok a → (r : ℕ) × (w ≡ Made a r)
work_done (Made x b) a e = (b, ap (λ y. Made y b) (ok_inj e))
work_done OverLimit a e = cc
work_done OverSize a e = cc

-- ---- more operators

sides_more : (fs gs : List PlainOperator) → Knows fs gs → (e : Sides) → AreSidesOver fs e → AreSidesOver gs e
sides_more fs gs k e h = (term_over_more fs gs k e.left h.0, term_over_more fs gs k e.right h.1, h.2)

pub formula_more : (fs gs : List PlainOperator) → Knows fs gs → (t : Tree) → IsFormulaOver fs t → IsFormulaOver gs t
formula_more fs gs k t h = (term_over_more fs gs k t h.0, h.1)

subgoal_more : (fs gs : List PlainOperator) → Knows fs gs → (s : Subgoal) → IsSubgoalOver fs s → IsSubgoalOver gs s
subgoal_more fs gs k s h = (
  All-weaker (AreSidesOver fs) (AreSidesOver gs)
      (sides_more fs gs k) s.hypotheses h.0,
  formula_more fs gs k s.goal h.1,
)

purpose_more : (fs gs : List PlainOperator) → Knows fs gs → (u : Purpose) → IsPurposeOver fs u → IsPurposeOver gs u
purpose_more fs gs k OfDuty h = tt
purpose_more fs gs k OfSubgoal h = tt
purpose_more fs gs k (OfProof f) h = formula_more fs gs k f h

level_more : (fs gs : List PlainOperator) → Knows fs gs → (l : Level) → IsLevelOver fs l → IsLevelOver gs l
level_more fs gs k l h = record {
  purpose = purpose_more fs gs k l.purpose h.purpose;
  facts = All-weaker (IsFactOver fs) (IsFactOver gs) (λ f p.
      (sides_more fs gs k f.sides p.0, p.1)) l.facts.rules h.facts;
  goal = formula_more fs gs k l.goal h.goal;
  remaining = All-weaker (IsSubgoalOver fs) (IsSubgoalOver gs) (subgoal_more fs gs k) l.remaining h.remaining;
}

-- ---- proofs of one theory, with lemmas and constants

-- a proof's parts that stay, and its levels, which are well sorted
pub record IsOf (t : Theory) (ls : List EarlierDuty) (cs : List PlainOperator) (u : Theory) (ks : List EarlierDuty)
    (ds : List PlainOperator) (vs : Variables) (l : Level) (ms : List Level) : Type 0 where
  pub theory : u ≡ t
  pub lemmas : ks ≡ ls
  pub constants : ds ≡ cs
  pub scope : AreNamedApart vs
  pub current : IsLevelOver (t.operators ++ cs) l
  pub below : All (IsLevelOver (t.operators ++ cs)) ms

abbrev pub Is : Theory → List EarlierDuty → List PlainOperator → Proof → Type 0
Is t ls cs p = IsOf t ls cs p.theory p.lemmas p.constants p.scope p.current p.below

-- with another current level, and others below
pub moved : (t : Theory) (ls : List EarlierDuty) (cs : List PlainOperator) (p : Proof) (l : Level) (ms : List Level)
    → Is t ls cs p → IsLevelOver (t.operators ++ cs) l → All (IsLevelOver (t.operators ++ cs)) ms
    → Is t ls cs (record p { current = l; below = ms })
moved t ls cs p l ms h k m =
    record {
      theory = h.theory;
      lemmas = h.lemmas;
      constants = h.constants;
      scope = h.scope;
      current = k;
      below = m;
    }

-- with other variables in scope
pub scoped : (t : Theory) (ls : List EarlierDuty) (cs : List PlainOperator) (p : Proof) (vs : Variables) → Is t ls cs p
    → AreNamedApart vs → Is t ls cs (record p { scope = vs })
scoped t ls cs p vs h k = record {
  theory = h.theory;
  lemmas = h.lemmas;
  constants = h.constants;
  scope = k;
  current = h.current;
  below = h.below;
}

with_facts_over : (t : Theory) (ls : List EarlierDuty) (cs : List PlainOperator) (p : Proof) (facts : Facts)
    → Is t ls cs p
    → All (IsFactOver (t.operators ++ cs)) facts.rules → Is t ls cs (with_facts facts p)
with_facts_over t ls cs p facts h k = record {
  theory = h.theory;
  lemmas = h.lemmas;
  constants = h.constants;
  scope = h.scope;
  current = record {
    purpose = h.current.purpose;
    facts = k;
    goal = h.current.goal;
    remaining = h.current.remaining;
  };
  below = h.below;
}

pub with_goal_over : (t : Theory) (ls : List EarlierDuty) (cs : List PlainOperator) (p : Proof) (g : Tree)
    → Is t ls cs p
    → IsFormulaOver (t.operators ++ cs) g → Is t ls cs (with_goal g p)
with_goal_over t ls cs p g h k = record {
  theory = h.theory;
  lemmas = h.lemmas;
  constants = h.constants;
  scope = h.scope;
  current = record {
    purpose = h.current.purpose;
    facts = h.current.facts;
    goal = k;
    remaining = h.current.remaining;
  };
  below = h.below;
}

-- ---- adding, and normal goals

fact_sides : (fs : List PlainOperator) (facts : List Fact) → All (IsFactOver fs) facts
    → All (λ (fact : Fact). AreSidesOver fs fact.sides) facts
fact_sides fs facts h = All-weaker (IsFactOver fs) (λ (fact : Fact). AreSidesOver fs fact.sides) (λ f p. p.0) facts h

fact_applications : (fs : List PlainOperator) (facts : List Fact) → All (IsFactOver fs) facts
    → All (λ (fact : Fact). IsApplication fact.sides.left) facts
fact_applications fs facts h =
    All-weaker (IsFactOver fs) (λ (fact : Fact). IsApplication fact.sides.left) (λ f p. p.1) facts h

pub added_keeps : (t : Theory) (ls : List EarlierDuty) (cs : List PlainOperator) (serves : Fact
    → Bool) (name : FactName)
    (e : Sides) (p q : Proof) → Is t ls cs p → AreSidesOver (t.operators ++ cs) e → added_by serves name e p ≡ Ok q
    → Is t ls cs q
added_keeps t ls cs serves name e p q h s k =
    let fs = t.operators ++ cs in
    let manner : Manner = record { serves = serves; ranks = p.ranks; name = name } in
    let m = between (work_result (add manner e p.current.facts p.limit)) (λ facts. Ok (with_facts facts p)) q k in
    let w = work_done (add manner e p.current.facts p.limit) m.made m.first in
    let sorted = add_over fs manner e p.current.facts p.limit m.made w.0
    (fact_sides fs p.current.facts.rules h.current.facts) s w.1 in
    let applied = add_applications manner e p.current.facts p.limit m.made w.0
    (fact_applications fs p.current.facts.rules h.current.facts) w.1 in
    subst (Is t ls cs) (ok_inj m.second)
    (with_facts_over t ls cs p m.made h (λ i f g. (sorted i f g, applied i f g)))

rules_sorted : (fs : List PlainOperator) (facts : List Fact) → All (IsFactOver fs) facts
    → All (AreSidesOver fs) (rules_of facts)
rules_sorted fs facts h =
    all_from (AreSidesOver fs) (rules_of facts) (λ e c.
    let found = contained_in_map (λ (fact : Fact). fact.sides) facts e c in
    subst (AreSidesOver fs) found.2 (at_contained facts found.0 h found.1))
  where
    at_contained : (rules : List Fact) (fact : Fact) → All (IsFactOver fs) rules → Contains rules fact
        → AreSidesOver fs fact.sides
    at_contained rules fact k c = subst (λ (f : Fact). AreSidesOver fs f.sides) c.2 (k c.0 fact c.1).0

pub goal_keeps : (t : Theory) (ls : List EarlierDuty) (cs : List PlainOperator) (p q : Proof) → Is t ls cs p
    → normal_goal p ≡ Ok q → Is t ls cs q
goal_keeps t ls cs p q h k =
    let fs = t.operators ++ cs in
    let rules = rules_of p.current.facts.rules in
    let m = between (work_result (normal rules p.current.goal p.limit)) (λ g. Ok (with_goal g p)) q k in
    let w = work_done (normal rules p.current.goal p.limit) m.made m.first in
    let n = normal_keeps fs rules p.current.goal p.limit m.made w.0
    (rules_sorted fs p.current.facts.rules h.current.facts)
    h.current.goal.0 w.1 in
    subst (Is t ls cs) (ok_inj m.second) (with_goal_over t ls cs p m.made h (n.0, n.1 ∙ h.current.goal.1))

pub supposed_keeps : (t : Theory) (ls : List EarlierDuty) (cs : List PlainOperator) (es : List Sides) (p q : Proof)
    → Is t ls cs p → All (AreSidesOver (t.operators ++ cs)) es → all_supposed es p ≡ Ok q → Is t ls cs q
supposed_keeps t ls cs [] p q h s k = subst (Is t ls cs) (ok_inj k) h
supposed_keeps t ls cs (e ∷ es) p q h s k =
    let fs = t.operators ++ cs in
    let m = between (suppose e p) (λ r. all_supposed es r) q k in
    supposed_keeps t ls cs es m.made q
    (added_keeps t ls cs all_serve (whole_name Hypothesis p.next_hypothesis) e
    (record p { next_hypothesis = p.next_hypothesis + 1 }) m.made h (All-head (AreSidesOver fs) e es s) m.first)
    (All-tail (AreSidesOver fs) e es s) m.second

pub derived_keeps : (t : Theory) (ls : List EarlierDuty) (cs : List PlainOperator) (serves : Fact → Bool) (e : Sides)
    (p q : Proof) → Is t ls cs p → AreSidesOver (t.operators ++ cs) e → derived_by serves e p ≡ Ok q → Is t ls cs q
derived_keeps t ls cs serves e p q h s k =
    let r = record p { next_derived = p.next_derived + 1 } in
    let m = between (added_by serves (whole_name Derived p.next_derived) e r) normal_goal q k in
    goal_keeps t ls cs m.made q
    (added_keeps t ls cs serves (whole_name Derived p.next_derived) e r m.made h s m.first) m.second

-- ---- levels

pub opened_keeps : (t : Theory) (ls : List EarlierDuty) (cs : List PlainOperator) (parent : Level) (below : List Level)
    (s : Subgoal) (p q : Proof) → Is t ls cs p → IsLevelOver (t.operators ++ cs) parent
    → All (IsLevelOver (t.operators ++ cs)) below → IsSubgoalOver (t.operators ++ cs) s
    → open_subgoal parent below s p ≡ Ok q
    → Is t ls cs q
opened_keeps t ls cs parent below s p q h l b w k =
    let fs = t.operators ++ cs in
    let r : Proof = with_mark false
    (record p { current = level_for OfSubgoal parent s.goal; below = parent ∷ below }) in
    let m = between (all_supposed s.hypotheses r) normal_goal q k in
    let start = moved t ls cs p (level_for OfSubgoal parent s.goal) (parent ∷ below) h
    (record { purpose = tt; facts = l.facts; goal = w.1; remaining = All-nil (IsSubgoalOver fs) })
    (All-cons (IsLevelOver fs) parent below l b) in
    goal_keeps t ls cs m.made q (supposed_keeps t ls cs s.hypotheses r m.made start w.0 m.first) m.second

-- what comes behind the last subgoal keeps sorts
abbrev pub Keeps : Theory → List EarlierDuty → List PlainOperator → Next → Type 0
Keeps t ls cs next = (p q : Proof) → Is t ls cs p → next p ≡ Ok q → Is t ls cs q

pub opened_from_keeps : (t : Theory) (ls : List EarlierDuty) (cs : List PlainOperator) (done : Next) (parent : Level)
    (below : List Level) (ss : List Subgoal) → Keeps t ls cs done → IsLevelOver (t.operators ++ cs) parent
    → All (IsLevelOver (t.operators ++ cs)) below → All (IsSubgoalOver (t.operators ++ cs)) ss
    → Keeps t ls cs (opened_from done parent below ss)
opened_from_keeps t ls cs done parent below [] d l b w p q h k = d p q h k
opened_from_keeps t ls cs done parent below (s ∷ ss) d l b w p q h k =
    let fs = t.operators ++ cs in
    let rest = All-tail (IsSubgoalOver fs) s ss w in
    let waits : Level = record parent { remaining = ss } in
    let m = between (open_subgoal waits below s p) (λ r. elim (is_settled r.current) [
      | true ↦ opened_from done parent below ss (with_mark true r)
      | false ↦ Ok r
    ]) q k in
    let first = opened_keeps t ls cs waits below s p m.made h
    (record { purpose = l.purpose; facts = l.facts; goal = l.goal; remaining = rest }) b
    (All-head (IsSubgoalOver fs) s ss w) m.first in
    either_way (Is t ls cs) (is_settled m.made.current) (opened_from done parent below ss (with_mark true m.made))
    (Ok m.made) q
    (λ e. opened_from_keeps t ls cs done parent below ss d l b rest (with_mark true m.made) q first e)
    (λ e. subst (Is t ls cs) (ok_inj e) first) m.second

-- what a level's proof leads to keeps sorts
abbrev RisesOver : Theory → List EarlierDuty → List PlainOperator → List Level → Type 0
RisesOver t ls cs below = (level : Level) → IsLevelOver (t.operators ++ cs) level → Keeps t ls cs (rise below level)

risen_by : (t : Theory) (ls : List EarlierDuty) (cs : List PlainOperator) (parent : Level) (below : List Level)
    (purpose : Purpose) → RisesOver t ls cs below → IsPurposeOver (t.operators ++ cs) purpose
    → IsLevelOver (t.operators ++ cs) parent → All (IsLevelOver (t.operators ++ cs)) below
    → Keeps t ls cs (λ p. elim purpose [
      | OfDuty ↦ Ok p
      | OfSubgoal ↦ opened_from (λ q. rise below parent q) parent below parent.remaining (with_mark true p)
      | OfProof f ↦
          after (derive (holds f) (with_mark true (record p { current = parent; below = below })))
          (λ q. elim (is_settled q.current) [
            | true ↦ rise below q.current q
            | false ↦ Ok q
          ])
    ])
risen_by t ls cs parent below OfDuty go u l b p q h k = subst (Is t ls cs) (ok_inj k) h
risen_by t ls cs parent below OfSubgoal go u l b p q h k =
    opened_from_keeps t ls cs (λ r. rise below parent r) parent below parent.remaining (go parent l) l b l.remaining
    (with_mark true p) q h k
risen_by t ls cs parent below (OfProof f) go u l b p q h k =
    let r : Proof = with_mark true (record p { current = parent; below = below }) in
    let m = between (derive (holds f) r) (λ s. elim (is_settled s.current) [
      | true ↦ rise below s.current s
      | false ↦ Ok s
    ]) q k in
    let first = derived_keeps t ls cs all_serve (holds f) r m.made (moved t ls cs p parent below h l b)
    (u.0, truth_over (t.operators ++ cs), u.1) m.first in
    either_way (Is t ls cs) (is_settled m.made.current) (rise below m.made.current m.made) (Ok m.made) q
    (λ e. go m.made.current first.current m.made q first e) (λ e. subst (Is t ls cs) (ok_inj e) first) m.second

pub risen_keeps : (t : Theory) (ls : List EarlierDuty) (cs : List PlainOperator) (below : List Level)
    → All (IsLevelOver (t.operators ++ cs)) below → RisesOver t ls cs below
risen_keeps t ls cs [] b level l p q h k =
    subst (Is t ls cs) (ok_inj k)
    (moved t ls cs p (record level { remaining = [] }) [] h
    (record {
      purpose = l.purpose;
      facts = l.facts;
      goal = l.goal;
      remaining = All-nil (IsSubgoalOver (t.operators ++ cs));
    })
    b)
risen_keeps t ls cs (parent ∷ below) b level l p q h k =
    let fs = t.operators ++ cs in
    let rest = All-tail (IsLevelOver fs) parent below b in
    risen_by t ls cs parent below level.purpose (risen_keeps t ls cs below rest) l.purpose
    (All-head (IsLevelOver fs) parent below b) rest p q h k

pub settled_keeps : (t : Theory) (ls : List EarlierDuty) (cs : List PlainOperator) → Keeps t ls cs settle_goal
settled_keeps t ls cs p q h k =
    either_way (Is t ls cs) (is_settled p.current) (rise p.below p.current p) (Ok p) q
    (λ e. risen_keeps t ls cs p.below h.below p.current h.current p q h e) (λ e. subst (Is t ls cs) (ok_inj e) h) k

-- ---- a method begins

-- operators with those that a plan makes
knows_all : (fs cs : List PlainOperator) (made : Plan) (s : Subgoal) → Contains made.subgoals s
    → Knows ((fs ++ cs) ++ (made.constants ++ s.constants)) (fs ++ (cs ++ all_constants made))
knows_all fs cs made s c f (inr b) = inr b
knows_all fs cs made s c f (inl i) =
    inl (elim (contains_either (fs ++ cs) (made.constants ++ s.constants) f i) [
      | inl a ↦ among_old a
      | inr a ↦ contains_right fs (cs ++ all_constants made) f (contains_right cs (all_constants made) f (among_new a))
    ])
  where
    among_old : Contains (fs ++ cs) f → Contains (fs ++ (cs ++ all_constants made)) f
    among_old a = elim (contains_either fs cs f a) [
      | inl d ↦ contains_left fs (cs ++ all_constants made) f d
      | inr d ↦ contains_right fs (cs ++ all_constants made) f (contains_left cs (all_constants made) f d)
    ]

    among_new : Contains (made.constants ++ s.constants) f → Contains (all_constants made) f
    among_new a = elim (contains_either made.constants s.constants f a) [
      | inl d ↦ contains_left made.constants (flat_map (λ (x : Subgoal). x.constants) made.subgoals) f d
      | inr d ↦ contains_right made.constants (flat_map (λ (x : Subgoal). x.constants) made.subgoals) f
          (contains_flat_map (λ (x : Subgoal). x.constants) made.subgoals s f c d)
    ]

knows_grown : (fs cs ds : List PlainOperator) → Knows (fs ++ cs) (fs ++ (cs ++ ds))
knows_grown fs cs ds f (inr b) = inr b
knows_grown fs cs ds f (inl i) = inl (elim (contains_either fs cs f i) [
  | inl d ↦ contains_left fs (cs ++ ds) f d
  | inr d ↦ contains_right fs (cs ++ ds) f (contains_left cs ds f d)
])

-- with constants that are made
pub with_constants_over : (t : Theory) (ls : List EarlierDuty) (cs ds : List PlainOperator) (p : Proof) → Is t ls cs p
    → Is t ls (cs ++ ds) (with_constants ds p)
with_constants_over t ls cs ds p h =
    let fs = t.operators ++ cs in
    let gs = t.operators ++ (cs ++ ds) in
    let k = knows_grown t.operators cs ds in
    record {
      theory = h.theory;
      lemmas = h.lemmas;
      constants = ap (λ c. c ++ ds) h.constants;
      scope = h.scope;
      current = level_more fs gs k p.current h.current;
      below = All-weaker (IsLevelOver fs) (IsLevelOver gs) (level_more fs gs k) p.below h.below;
    }

pub begun_keeps : (t : Theory) (ls : List EarlierDuty) (cs : List PlainOperator) (made : Plan) (p q : Proof)
    → Is t ls cs p → IsPlanOver (t.operators ++ cs) made → begun made p ≡ Ok q → Is t ls (cs ++ all_constants made) q
begun_keeps t ls cs made p q h w k =
    let ds = all_constants made in
    let gs = t.operators ++ (cs ++ ds) in
    let start = with_constants_over t ls cs ds p h in
    opened_from_keeps t ls (cs ++ ds) (λ r. rise p.below p.current r) p.current p.below made.subgoals
    (risen_keeps t ls (cs ++ ds) p.below start.below p.current start.current) start.current start.below
    (all_from (IsSubgoalOver gs) made.subgoals (λ s c. subgoal_more _ gs (knows_all t.operators cs made s c) s (w s c)))
    (with_constants ds p) q start k
