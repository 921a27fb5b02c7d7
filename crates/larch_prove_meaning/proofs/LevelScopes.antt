-- The scope stays where goals are opened and proved.
use Rattle.std.specs.Prelude.{◌≡◌, ◌+◌, Bool, true, false, List, [], ◌∷◌, Ok, refl}
use Rattle.std.proofs.Common.{◌∙◌, subst}
use Rattle.larch_base.specs.declared.fact_name.FactLetter.TheVariants.{Derived, Hypothesis}
use Rattle.larch_base.specs.declared.fact_name.FactName.{FactName}
use Rattle.larch_base_meaning.specs.Steps.{after}
use Rattle.larch_rewrite_meaning.specs.NormalForm.{normal}
use Rattle.larch_rewrite_meaning.specs.Sides.{Sides}
use Rattle.larch_prove_meaning.specs.Facts.{Fact, Manner, add, rules_of, whole_name}
use Rattle.larch_prove_meaning.specs.Levels.{Level, Next, OfDuty, OfProof, OfSubgoal, Proof, Purpose, added_by}
use Rattle.larch_prove_meaning.specs.Levels.{all_constants, all_serve, all_supposed, begun, derive, derived_by}
use Rattle.larch_prove_meaning.specs.Levels.{is_settled, level_for, normal_goal, open_subgoal, opened_from, rise}
use Rattle.larch_prove_meaning.specs.Levels.{settle_goal, suppose, with_constants, with_facts, with_goal, with_mark}
use Rattle.larch_prove_meaning.specs.Levels.{work_result}
use Rattle.larch_prove_meaning.specs.Plans.{Plan, Subgoal, holds}
use Rattle.larch_prove_meaning.proofs.LevelSorts.{between, either_way, ok_inj}

-- the second proof has the scope of the first
abbrev pub Stays : Proof → Proof → Type 0
Stays p q = q.scope ≡ p.scope

pub further : (p m q : Proof) → Stays p m → Stays m q → Stays p q
further p m q a b = b ∙ a

-- so has what a step leads to
abbrev pub Keeps : Next → Type 0
Keeps next = (p q : Proof) → next p ≡ Ok q → Stays p q

-- ---- adding

pub added_stays : (serves : Fact → Bool) (name : FactName) (e : Sides) → Keeps (added_by serves name e)
added_stays serves name e p q k =
    let manner : Manner = record { serves = serves; ranks = p.ranks; name = name } in
    let m = between (work_result (add manner e p.current.facts p.limit)) (λ facts. Ok (with_facts facts p)) q k in
    subst (Stays p) (ok_inj m.second) refl

supposed_stays : (e : Sides) → Keeps (suppose e)
supposed_stays e p q k =
    added_stays all_serve (whole_name Hypothesis p.next_hypothesis) e
    (record p { next_hypothesis = p.next_hypothesis + 1 }) q k

pub normal_stays : Keeps normal_goal
normal_stays p q k =
    let rules = rules_of p.current.facts.rules in
    let m = between (work_result (normal rules p.current.goal p.limit)) (λ g. Ok (with_goal g p)) q k in
    subst (Stays p) (ok_inj m.second) refl

pub all_supposed_stay : (es : List Sides) → Keeps (all_supposed es)
all_supposed_stay [] p q k = subst (Stays p) (ok_inj k) refl
all_supposed_stay (e ∷ es) p q k =
    let m = between (suppose e p) (λ r. all_supposed es r) q k in
    further p m.made q (supposed_stays e p m.made m.first) (all_supposed_stay es m.made q m.second)

pub derived_stays : (serves : Fact → Bool) (e : Sides) → Keeps (derived_by serves e)
derived_stays serves e p q k =
    let r : Proof = record p { next_derived = p.next_derived + 1 } in
    let m = between (added_by serves (whole_name Derived p.next_derived) e r) normal_goal q k in
    further p m.made q (added_stays serves (whole_name Derived p.next_derived) e r m.made m.first)
    (normal_stays m.made q m.second)

-- ---- subgoals

opened_stays : (parent : Level) (below : List Level) (s : Subgoal) → Keeps (open_subgoal parent below s)
opened_stays parent below s p q k =
    let r : Proof = with_mark false
    (record p { current = level_for OfSubgoal parent s.goal; below = parent ∷ below }) in
    let m = between (all_supposed s.hypotheses r) normal_goal q k in
    further p m.made q (all_supposed_stay s.hypotheses r m.made m.first) (normal_stays m.made q m.second)

opened_from_stays : (done : Next) (parent : Level) (below : List Level) (ss : List Subgoal) → Keeps done
    → Keeps (opened_from done parent below ss)
opened_from_stays done parent below [] d p q k = d p q k
opened_from_stays done parent below (s ∷ ss) d p q k =
    let waits : Level = record parent { remaining = ss } in
    let m = between (open_subgoal waits below s p) (λ r. elim (is_settled r.current) [
      | true ↦ opened_from done parent below ss (with_mark true r)
      | false ↦ Ok r
    ]) q k in
    let first = opened_stays waits below s p m.made m.first in
    either_way (Stays p) (is_settled m.made.current) (opened_from done parent below ss (with_mark true m.made))
    (Ok m.made) q
    (λ e. further p m.made q first (opened_from_stays done parent below ss d (with_mark true m.made) q e))
    (λ e. subst (Stays p) (ok_inj e) first) m.second

-- ---- what a level's proof leads to

risen_by : (parent : Level) (below : List Level) (purpose : Purpose) → ((level : Level) → Keeps (rise below level))
    → Keeps (λ p. elim purpose [
      | OfDuty ↦ Ok p
      | OfSubgoal ↦ opened_from (λ q. rise below parent q) parent below parent.remaining (with_mark true p)
      | OfProof f ↦
          after (derive (holds f) (with_mark true (record p { current = parent; below = below })))
          (λ q. elim (is_settled q.current) [
            | true ↦ rise below q.current q
            | false ↦ Ok q
          ])
    ])
risen_by parent below OfDuty go p q k = subst (Stays p) (ok_inj k) refl
risen_by parent below OfSubgoal go p q k =
    opened_from_stays (λ r. rise below parent r) parent below parent.remaining (go parent) (with_mark true p) q k
risen_by parent below (OfProof f) go p q k =
    let r : Proof = with_mark true (record p { current = parent; below = below }) in
    let m = between (derive (holds f) r) (λ s. elim (is_settled s.current) [
      | true ↦ rise below s.current s
      | false ↦ Ok s
    ]) q k in
    let first = derived_stays all_serve (holds f) r m.made m.first in
    either_way (Stays p) (is_settled m.made.current) (rise below m.made.current m.made) (Ok m.made) q
    (λ e. further p m.made q first (go m.made.current m.made q e)) (λ e. subst (Stays p) (ok_inj e) first) m.second

risen_stays : (below : List Level) (level : Level) → Keeps (rise below level)
risen_stays [] level p q k = subst (Stays p) (ok_inj k) refl
risen_stays (parent ∷ below) level p q k = risen_by parent below level.purpose (risen_stays below) p q k

pub settled_stays : Keeps settle_goal
settled_stays p q k =
    either_way (Stays p) (is_settled p.current) (rise p.below p.current p) (Ok p) q
    (λ e. risen_stays p.below p.current p q e) (λ e. subst (Stays p) (ok_inj e) refl) k

pub begun_stays : (made : Plan) → Keeps (begun made)
begun_stays made p q k =
    opened_from_stays (λ r. rise p.below p.current r) p.current p.below made.subgoals (risen_stays p.below p.current)
    (with_constants (all_constants made) p) q k
