-- The names of facts stay different where goals are opened and proved.
use Rattle.std.specs.Prelude.{◌≡◌, ◌≤◌, ◌+◌, ℕ, Bool, true, false, List, [], ◌∷◌, All, Ok}
use Rattle.std.proofs.Common.{ap, arith, subst, sym}
use Rattle.std.proofs.lemmas.List.Elements.{All-cons, All-head, All-tail, All-weaker}
use Rattle.larch_base.specs.declared.fact_name.FactLetter.TheVariants.{Derived, Hypothesis}
use Rattle.larch_base.specs.declared.fact_name.FactName.{FactName}
use Rattle.larch_base_meaning.specs.Steps.{after}
use Rattle.larch_rewrite_meaning.specs.NormalForm.{normal}
use Rattle.larch_rewrite_meaning.specs.Sides.{Sides}
use Rattle.larch_rewrite_meaning.specs.Work.{Work, Made, OverLimit, OverSize}
use Rattle.larch_prove_meaning.specs.Facts.{Fact, Facts, Manner, add, rules_of, whole_name}
use Rattle.larch_prove_meaning.specs.Levels.{Level, Next, OfDuty, OfProof, OfSubgoal, Proof, Purpose, added_by}
use Rattle.larch_prove_meaning.specs.Levels.{all_constants, all_serve, all_supposed, begun, derive, derived_by}
use Rattle.larch_prove_meaning.specs.Levels.{is_settled, level_for, normal_goal, open_subgoal, opened_from, rise}
use Rattle.larch_prove_meaning.specs.Levels.{settle_goal, suppose, with_constants, with_facts, with_goal, with_mark}
use Rattle.larch_prove_meaning.specs.Levels.{work_result}
use Rattle.larch_prove_meaning.specs.Named.{HasGivenNumber, HaveDifferentNames, IsNamedLevel}
use Rattle.larch_prove_meaning.specs.Plans.{Plan, Subgoal, holds}
use Rattle.larch_prove_meaning.proofs.AddingNames.{HasOtherName, add_named, part_of}
use Rattle.larch_prove_meaning.proofs.LevelSorts.{between, either_way, ok_inj}

-- ---- levels

-- the levels have different names, given before these numbers
pub record AreNamed (h d : ℕ) (l : Level) (ms : List Level) : Type 0 where
  pub current : IsNamedLevel h d l
  pub below : All (IsNamedLevel h d) ms

abbrev pub Is : Proof → Type 0
Is p = AreNamed p.next_hypothesis p.next_derived p.current p.below

-- numbers that were given before earlier ones were given before later ones
later_level : (h d i e : ℕ) → h ≤ i → d ≤ e → (l : Level) → IsNamedLevel h d l → IsNamedLevel i e l
later_level h d i e a b l n = record {
  different = n.different;
  given = All-weaker (HasGivenNumber h d) (HasGivenNumber i e)
      (λ f g. (
        λ q. let lt = g.0 q in omega (arith, lt, a),
        λ q. let lt = g.1 q in omega (arith, lt, b),
      )) l.facts.rules n.given;
}

later_levels : (h d i e : ℕ) → h ≤ i → d ≤ e → (ms : List Level) → All (IsNamedLevel h d) ms → All (IsNamedLevel i e) ms
later_levels h d i e a b ms n = All-weaker (IsNamedLevel h d) (IsNamedLevel i e) (later_level h d i e a b) ms n

-- the second proof has different names too, and its next numbers are those of the first or later
pub record Goes (p q : Proof) : Type 0 where
  pub named : Is q
  pub hypotheses : p.next_hypothesis ≤ q.next_hypothesis
  pub derived : p.next_derived ≤ q.next_derived

pub stays : (p : Proof) → Is p → Goes p p
stays p h = record { named = h; hypotheses = omega arith; derived = omega arith }

pub further : (p q r : Proof) → Goes p q → Goes q r → Goes p r
further p q r g k =
    let a = g.hypotheses in
    let b = k.hypotheses in
    let c = g.derived in
    let d = k.derived in
    record { named = k.named; hypotheses = omega (arith, a, b); derived = omega (arith, c, d) }

pub goes_level : (p q : Proof) → Goes p q → (l : Level) → IsNamedLevel p.next_hypothesis p.next_derived l
    → IsNamedLevel q.next_hypothesis q.next_derived l
goes_level p q g l n =
    later_level p.next_hypothesis p.next_derived q.next_hypothesis q.next_derived g.hypotheses g.derived l n

pub goes_levels : (p q : Proof) → Goes p q → (ms : List Level)
    → All (IsNamedLevel p.next_hypothesis p.next_derived) ms → All (IsNamedLevel q.next_hypothesis q.next_derived) ms
goes_levels p q g ms n =
    later_levels p.next_hypothesis p.next_derived q.next_hypothesis q.next_derived g.hypotheses g.derived ms n

-- ---- adding

work_done : {A : Type 0} (w : Work A) (a : A) → work_result w ≡ Ok a → (r : ℕ) × (w ≡ Made a r)
work_done (Made x b) a e = (b, ap (λ y. Made y b) (ok_inj e))
work_done OverLimit a e = cc
work_done OverSize a e = cc

-- what an adding under a new name makes of a proof
pub record Added (P : Fact → Type 0) (p q : Proof) : Type 0 where
  pub facts : Facts
  pub made : with_facts facts p ≡ q
  pub different : HaveDifferentNames facts.rules
  pub hold : All P facts.rules

pub added_named : (P : Fact → Type 0) (serves : Fact → Bool) (name : FactName) (e : Sides) (p q : Proof)
    → ((j : ℕ) (s : Sides) → P (part_of name j s)) → HaveDifferentNames p.current.facts.rules
    → All (HasOtherName name) p.current.facts.rules → All P p.current.facts.rules → added_by serves name e p ≡ Ok q
    → Added P p q
added_named P serves name e p q new d o h k =
    let manner : Manner = record { serves = serves; ranks = p.ranks; name = name } in
    let m = between (work_result (add manner e p.current.facts p.limit)) (λ facts. Ok (with_facts facts p)) q k in
    let w = work_done (add manner e p.current.facts p.limit) m.made m.first in
    let n = add_named P manner e p.current.facts p.limit m.made w.0 new d o h w.1 in
    record { facts = m.made; made = ok_inj m.second; different = n.0; hold = n.1 }

-- under a name whose number was given
pub added_goes : (serves : Fact → Bool) (name : FactName) (e : Sides) (p q : Proof) → Is p
    → ((j : ℕ) (s : Sides) → HasGivenNumber p.next_hypothesis p.next_derived (part_of name j s))
    → All (HasOtherName name) p.current.facts.rules → added_by serves name e p ≡ Ok q → Goes p q
added_goes serves name e p q h new o k =
    let a = added_named (HasGivenNumber p.next_hypothesis p.next_derived) serves name e p q new h.current.different o
    h.current.given k in
    subst (Goes p) a.made (record {
      named = record { current = record { different = a.different; given = a.hold }; below = h.below };
      hypotheses = omega arith;
      derived = omega arith;
    })

two_letters : Hypothesis ≡ Derived → ⊥
two_letters e = cc

pub supposed_goes : (e : Sides) (p q : Proof) → Is p → suppose e p ≡ Ok q → Goes p q
supposed_goes e p q h k =
    let n = p.next_hypothesis in
    let r : Proof = record p { next_hypothesis = n + 1 } in
    let there : Goes p r = record {
      named = record {
        current = later_level n p.next_derived (n + 1) p.next_derived (omega arith) (omega arith) p.current h.current;
        below = later_levels n p.next_derived (n + 1) p.next_derived (omega arith) (omega arith) p.below h.below;
      };
      hypotheses = omega arith;
      derived = omega arith;
    } in
    further p r q there
    (added_goes all_serve (whole_name Hypothesis n) e r q there.named
    (λ j s. (λ x. omega arith, λ x. absurd (two_letters x)))
    (All-weaker (HasGivenNumber n p.next_derived) (HasOtherName (whole_name Hypothesis n))
    (λ f g x y. let lt = g.0 x in omega (arith, lt, y)) p.current.facts.rules h.current.given) k)

goal_goes : (p q : Proof) → Is p → normal_goal p ≡ Ok q → Goes p q
goal_goes p q h k =
    let rules = rules_of p.current.facts.rules in
    let m = between (work_result (normal rules p.current.goal p.limit)) (λ g. Ok (with_goal g p)) q k in
    subst (Goes p) (ok_inj m.second) (record {
      named = record {
        current = record { different = h.current.different; given = h.current.given };
        below = h.below;
      };
      hypotheses = omega arith;
      derived = omega arith;
    })

pub normal_goes : (p q : Proof) → Is p → normal_goal p ≡ Ok q → Goes p q
normal_goes p q h k = goal_goes p q h k

pub all_supposed_go : (es : List Sides) (p q : Proof) → Is p → all_supposed es p ≡ Ok q → Goes p q
all_supposed_go [] p q h k = subst (Goes p) (ok_inj k) (stays p h)
all_supposed_go (e ∷ es) p q h k =
    let m = between (suppose e p) (λ r. all_supposed es r) q k in
    let first = supposed_goes e p m.made h m.first in
    further p m.made q first (all_supposed_go es m.made q first.named m.second)

pub derived_goes : (serves : Fact → Bool) (e : Sides) (p q : Proof) → Is p → derived_by serves e p ≡ Ok q → Goes p q
derived_goes serves e p q h k =
    let n = p.next_derived in
    let r : Proof = record p { next_derived = n + 1 } in
    let there : Goes p r = record {
      named = record {
        current = later_level p.next_hypothesis n p.next_hypothesis (n + 1) (omega arith) (omega arith) p.current
            h.current;
        below = later_levels p.next_hypothesis n p.next_hypothesis (n + 1) (omega arith) (omega arith) p.below h.below;
      };
      hypotheses = omega arith;
      derived = omega arith;
    } in
    let m = between (added_by serves (whole_name Derived n) e r) normal_goal q k in
    let first = added_goes serves (whole_name Derived n) e r m.made there.named
    (λ j s. (λ x. absurd (two_letters (sym x)), λ x. omega arith))
    (All-weaker (HasGivenNumber p.next_hypothesis n) (HasOtherName (whole_name Derived n))
    (λ f g x y. let lt = g.1 x in omega (arith, lt, y)) p.current.facts.rules h.current.given) m.first in
    further p r q there (further r m.made q first (goal_goes m.made q first.named m.second))

-- ---- subgoals

opened_goes : (parent : Level) (below : List Level) (s : Subgoal) (p q : Proof)
    → IsNamedLevel p.next_hypothesis p.next_derived parent
    → All (IsNamedLevel p.next_hypothesis p.next_derived) below → open_subgoal parent below s p ≡ Ok q → Goes p q
opened_goes parent below s p q l b k =
    let r : Proof = with_mark false
    (record p { current = level_for OfSubgoal parent s.goal; below = parent ∷ below }) in
    let m = between (all_supposed s.hypotheses r) normal_goal q k in
    let start : Is r = record {
      current = record { different = l.different; given = l.given };
      below = All-cons (IsNamedLevel p.next_hypothesis p.next_derived) parent below l b;
    } in
    let first = all_supposed_go s.hypotheses r m.made start m.first in
    let all = further r m.made q first (goal_goes m.made q first.named m.second) in
    record { named = all.named; hypotheses = all.hypotheses; derived = all.derived }

-- a step that goes on upon these levels
abbrev GoesUpon : Level → List Level → Next → Type 0
GoesUpon l ms next = (p q : Proof) → Is p → IsNamedLevel p.next_hypothesis p.next_derived l
    → All (IsNamedLevel p.next_hypothesis p.next_derived) ms → next p ≡ Ok q → Goes p q

opened_from_goes : (done : Next) (parent : Level) (below : List Level) (ss : List Subgoal)
    → GoesUpon parent below done → GoesUpon parent below (opened_from done parent below ss)
opened_from_goes done parent below [] d p q h l b k = d p q h l b k
opened_from_goes done parent below (s ∷ ss) d p q h l b k =
    let waits : Level = record parent { remaining = ss } in
    let m = between (open_subgoal waits below s p) (λ r. elim (is_settled r.current) [
      | true ↦ opened_from done parent below ss (with_mark true r)
      | false ↦ Ok r
    ]) q k in
    let first = opened_goes waits below s p m.made (record { different = l.different; given = l.given }) b m.first in
    either_way (Goes p) (is_settled m.made.current) (opened_from done parent below ss (with_mark true m.made))
    (Ok m.made) q
    (λ e.
    let rest = opened_from_goes done parent below ss d (with_mark true m.made) q
    (record { current = first.named.current; below = first.named.below }) (goes_level p m.made first parent l)
    (goes_levels p m.made first below b) e in
    further p m.made q first
    (record { named = rest.named; hypotheses = rest.hypotheses; derived = rest.derived }))
    (λ e. subst (Goes p) (ok_inj e) first) m.second

-- ---- what a level's proof leads to

risen_by : (parent : Level) (below : List Level) (purpose : Purpose)
    → ((level : Level) → GoesUpon level below (rise below level))
    → GoesUpon parent below (λ p. elim purpose [
      | OfDuty ↦ Ok p
      | OfSubgoal ↦ opened_from (λ q. rise below parent q) parent below parent.remaining (with_mark true p)
      | OfProof f ↦
          after (derive (holds f) (with_mark true (record p { current = parent; below = below })))
          (λ q. elim (is_settled q.current) [
            | true ↦ rise below q.current q
            | false ↦ Ok q
          ])
    ])
risen_by parent below OfDuty go p q h l b k = subst (Goes p) (ok_inj k) (stays p h)
risen_by parent below OfSubgoal go p q h l b k =
    let all = opened_from_goes (λ r. rise below parent r) parent below parent.remaining (go parent) (with_mark true p) q
    (record { current = h.current; below = h.below }) l b k in
    record { named = all.named; hypotheses = all.hypotheses; derived = all.derived }
risen_by parent below (OfProof f) go p q h l b k =
    let r : Proof = with_mark true (record p { current = parent; below = below }) in
    let m = between (derive (holds f) r) (λ s. elim (is_settled s.current) [
      | true ↦ rise below s.current s
      | false ↦ Ok s
    ]) q k in
    let start : Is r = record { current = l; below = b } in
    let there = derived_goes all_serve (holds f) r m.made start m.first in
    let first : Goes p m.made =
    record { named = there.named; hypotheses = there.hypotheses; derived = there.derived } in
    either_way (Goes p) (is_settled m.made.current) (rise below m.made.current m.made) (Ok m.made) q
    (λ e. further p m.made q first
    (go m.made.current m.made q first.named first.named.current (goes_levels p m.made first below b) e))
    (λ e. subst (Goes p) (ok_inj e) first) m.second

risen_goes : (below : List Level) (level : Level) → GoesUpon level below (rise below level)
risen_goes [] level p q h l b k =
    subst (Goes p) (ok_inj k)
    (record {
      named = record { current = record { different = l.different; given = l.given }; below = b };
      hypotheses = omega arith;
      derived = omega arith;
    })
risen_goes (parent ∷ below) level p q h l b k =
    let N = IsNamedLevel p.next_hypothesis p.next_derived in
    risen_by parent below level.purpose (risen_goes below) p q h (All-head N parent below b)
    (All-tail N parent below b) k

pub settled_goes : (p q : Proof) → Is p → settle_goal p ≡ Ok q → Goes p q
settled_goes p q h k =
    either_way (Goes p) (is_settled p.current) (rise p.below p.current p) (Ok p) q
    (λ e. risen_goes p.below p.current p q h h.current h.below e) (λ e. subst (Goes p) (ok_inj e) (stays p h)) k

pub begun_goes : (made : Plan) (p q : Proof) → Is p → begun made p ≡ Ok q → Goes p q
begun_goes made p q h k =
    let all = opened_from_goes (λ r. rise p.below p.current r) p.current p.below made.subgoals
    (risen_goes p.below p.current) (with_constants (all_constants made) p) q
    (record { current = h.current; below = h.below }) h.current h.below k in
    record { named = all.named; hypotheses = all.hypotheses; derived = all.derived }
