-- What the proof of a level leads to, step by step.
use Rattle.std.specs.Prelude.{◌≡◌, ◌+◌, Bool, true, false, List, [], ◌∷◌, Result, Ok, Err, refl}
use Rattle.std.proofs.Common.{ap, sym, ◌∙◌}
use Rattle.larch_base.specs.declared.code.Code.{Code}
use Rattle.larch_prove_levels.specs.Derived.{Worked, derived_in, if_settled, with_normal_goal, on_parent, with_derived}
use Rattle.larch_prove_levels.specs.Derived.{worked_in}
use Rattle.larch_prove_levels.specs.Opened.{Opened, opened_by, with_next}
use Rattle.larch_prove_levels.proofs.Opening.{subgoal_opened}
use Rattle.larch_prove_boxes.specs.ProveMeaningFacts.{Facts, rules_of}
use Rattle.larch_prove_boxes.specs.ProveMeaningLevels.{Level, Next, OfProof, OfSubgoal, Proof, derive, is_settled}
use Rattle.larch_prove_boxes.specs.ProveMeaningLevels.{normal_goal, open_subgoal, opened_from}
use Rattle.larch_prove_boxes.specs.ProveMeaningLevels.{rise, settle_goal, with_facts}
use Rattle.larch_prove_boxes.specs.ProveMeaningLevels.{with_mark, work_result}
use Rattle.larch_prove_boxes.specs.ProveMeaningPlans.{Subgoal, holds}
use Rattle.larch_prove_adding.specs.RewriteMeaningNormalForm.{normal}
use Rattle.larch_prove_adding.specs.RewriteMeaningSides.{Sides}
use Rattle.larch_term.specs.Tree.{Tree}
use Rattle.larch_base_meaning.specs.Steps.{after}

-- what remains of a level plays no part where it is proved
pub rise_remaining : (below : List Level) (level : Level) (ss : List Subgoal) (p : Proof)
    → rise below (record level { remaining = ss }) p ≡ rise below level p
rise_remaining [] level ss p = refl
rise_remaining (parent ∷ below) level ss p = refl

if_alike : (f g : Next) (q : Proof) (b : Bool) → f q ≡ g q
    → ◌≡◌ {A = Result Proof Code} (elim b [ true ↦ f q | false ↦ Ok q ]) (elim b [ true ↦ g q | false ↦ Ok q ])
if_alike f g q true e = e
if_alike f g q false e = refl

after_alike : (r : Result Proof Code) (f g : Next) → ((q : Proof) → f q ≡ g q)
    → after r (if_settled f) ≡ after r (if_settled g)
after_alike (Ok q) f g h = if_alike f g q (is_settled q.current) (h q)
after_alike (Err code) f g h = refl

-- nor where its subgoals are opened
pub opened_remaining : (parent : Level) (below : List Level) (xs ss : List Subgoal) (p : Proof)
    → opened_from (λ q. rise below (record parent { remaining = xs }) q) (record parent { remaining = xs }) below ss p
    ≡ opened_from (λ q. rise below parent q) parent below ss p
opened_remaining parent below xs [] p = rise_remaining below parent xs p
opened_remaining parent below xs (s ∷ ss) p =
    after_alike (open_subgoal (record parent { remaining = ss }) below s p)
    (λ q. opened_from (λ r. rise below (record parent { remaining = xs }) r) (record parent { remaining = xs }) below ss
    (with_mark true q))
    (λ q. opened_from (λ r. rise below parent r) parent below ss (with_mark true q))
    (λ q. opened_remaining parent below xs ss (with_mark true q))

-- a subgoal is proved: the next one is opened
pub rise_subgoal : (parent : Level) (below : List Level) (level : Level) (p : Proof) → level.purpose ≡ OfSubgoal
    → rise (parent ∷ below) level p
    ≡ opened_from (λ q. rise below parent q) parent below parent.remaining (with_mark true p)
rise_subgoal parent below level p e = ap (λ u. rise (parent ∷ below) (record level { purpose = u }) p) e

opened_so : (parent : Level) (below : List Level) (s : Subgoal) (ss : List Subgoal) (p : Proof) (o : Opened)
    → opened_by p.ranks p.limit s (record { facts = parent.facts; next = p.next_hypothesis }) ≡ Ok o
    → opened_from (λ q. rise below parent q) parent below (s ∷ ss) p
    ≡ if_settled (λ q. opened_from (λ r. rise below parent r) parent below ss (with_mark true q))
    (with_next parent below s ss o p)
opened_so parent below s ss p o e =
    ap (λ r. after r (if_settled (λ q. opened_from (λ r. rise below parent r) parent below ss (with_mark true q))))
    (subgoal_opened (record parent { remaining = ss }) below s p
    ∙ ap (λ r. after r (λ o. Ok (with_next parent below s ss o p))) e)

-- the next subgoal is opened, and isn't proved at once
pub next_open : (parent : Level) (below : List Level) (s : Subgoal) (ss : List Subgoal) (p : Proof) (o : Opened)
    → opened_by p.ranks p.limit s (record { facts = parent.facts; next = p.next_hypothesis }) ≡ Ok o
    → is_settled (with_next parent below s ss o p).current ≡ false
    → opened_from (λ q. rise below parent q) parent below (s ∷ ss) p ≡ Ok (with_next parent below s ss o p)
next_open parent below s ss p o e d =
    opened_so parent below s ss p o e
    ∙ ap (λ b. elim b [
      | true ↦ opened_from (λ r. rise below parent r) parent below ss (with_mark true (with_next parent below s ss o p))
      | false ↦ Ok (with_next parent below s ss o p)
    ]) d

-- or it is proved at once, and the levels rise
pub next_proved : (parent : Level) (below : List Level) (s : Subgoal) (ss : List Subgoal) (p : Proof) (o : Opened)
    → opened_by p.ranks p.limit s (record { facts = parent.facts; next = p.next_hypothesis }) ≡ Ok o
    → is_settled (with_next parent below s ss o p).current ≡ true
    → opened_from (λ q. rise below parent q) parent below (s ∷ ss) p
    ≡ rise (record parent { remaining = ss } ∷ below) (with_next parent below s ss o p).current
    (with_next parent below s ss o p)
next_proved parent below s ss p o e d =
    opened_so parent below s ss p o e
    ∙ ap (λ b. elim b [
      | true ↦ opened_from (λ r. rise below parent r) parent below ss (with_mark true (with_next parent below s ss o p))
      | false ↦ Ok (with_next parent below s ss o p)
    ]) d
    ∙ sym (opened_remaining parent below ss ss (with_mark true (with_next parent below s ss o p)))

-- or it is refused
pub next_refused : (parent : Level) (below : List Level) (s : Subgoal) (ss : List Subgoal) (p : Proof) (code : Code)
    → opened_by p.ranks p.limit s (record { facts = parent.facts; next = p.next_hypothesis }) ≡ Err code
    → opened_from (λ q. rise below parent q) parent below (s ∷ ss) p ≡ Err code
next_refused parent below s ss p code e =
    ap (λ r. after r (if_settled (λ q. opened_from (λ r. rise below parent r) parent below ss (with_mark true q))))
    (subgoal_opened (record parent { remaining = ss }) below s p
    ∙ ap (λ r. after r (λ o. Ok (with_next parent below s ss o p))) e)

-- ---- formulas that commands proved

normal_so : (p : Proof) (facts : Facts) (w : Result Tree Code)
    → after w (λ g. Ok (record p {
      current = record p.current { facts = facts; goal = g };
      next_derived = p.next_derived + 1;
    }))
    ≡ after (after w (λ g. Ok (record { facts = facts; goal = g }))) (λ made. Ok (with_derived made p))
normal_so p facts (Ok g) = refl
normal_so p facts (Err code) = refl

added_so : (p : Proof) (w : Result Facts Code)
    → after (after w (λ facts. Ok (with_facts facts (record p { next_derived = p.next_derived + 1 })))) normal_goal
    ≡ after (after w (with_normal_goal p.limit p.current.goal)) (λ made. Ok (with_derived made p))
added_so p (Ok facts) = normal_so p facts (work_result (normal (rules_of facts.rules) p.current.goal p.limit))
added_so p (Err code) = refl

-- a command's equation is added by the level's facts and goal
pub derive_by : (e : Sides) (p : Proof)
    → derive e p
    ≡ after (derived_in p.ranks p.limit e p.next_derived (worked_in p)) (λ made. Ok (with_derived made p))
derive_by e p = added_so p _

-- a formula that a command proved is added below
pub rise_proof : (parent : Level) (below : List Level) (level : Level) (f : Tree) (p : Proof)
    → level.purpose ≡ OfProof f
    → rise (parent ∷ below) level p
    ≡ after (derive (holds f) (on_parent parent below p)) (if_settled (λ q. rise below q.current q))
rise_proof parent below level f p e = ap (λ u. rise (parent ∷ below) (record level { purpose = u }) p) e

-- and doesn't prove it
pub proof_open : (parent : Level) (below : List Level) (f : Tree) (p : Proof) (made : Worked)
    → derived_in p.ranks p.limit (holds f) p.next_derived (record { facts = parent.facts; goal = parent.goal })
    ≡ Ok made
    → is_settled (with_derived made (on_parent parent below p)).current ≡ false
    → after (derive (holds f) (on_parent parent below p)) (if_settled (λ q. rise below q.current q))
    ≡ Ok (with_derived made (on_parent parent below p))
proof_open parent below f p made e d =
    ap (λ r. after r (if_settled (λ q. rise below q.current q)))
    (derive_by (holds f) (on_parent parent below p)
    ∙ ap (λ r. after r (λ w. Ok (with_derived w (on_parent parent below p)))) e)
    ∙ ap (λ b. elim b [
      | true ↦ rise below (with_derived made (on_parent parent below p)).current
          (with_derived made (on_parent parent below p))
      | false ↦ Ok (with_derived made (on_parent parent below p))
    ]) d

-- or proves it
pub proof_proved : (parent : Level) (below : List Level) (f : Tree) (p : Proof) (made : Worked)
    → derived_in p.ranks p.limit (holds f) p.next_derived (record { facts = parent.facts; goal = parent.goal })
    ≡ Ok made
    → is_settled (with_derived made (on_parent parent below p)).current ≡ true
    → after (derive (holds f) (on_parent parent below p)) (if_settled (λ q. rise below q.current q))
    ≡ rise below (with_derived made (on_parent parent below p)).current (with_derived made (on_parent parent below p))
proof_proved parent below f p made e d =
    ap (λ r. after r (if_settled (λ q. rise below q.current q)))
    (derive_by (holds f) (on_parent parent below p)
    ∙ ap (λ r. after r (λ w. Ok (with_derived w (on_parent parent below p)))) e)
    ∙ ap (λ b. elim b [
      | true ↦ rise below (with_derived made (on_parent parent below p)).current
          (with_derived made (on_parent parent below p))
      | false ↦ Ok (with_derived made (on_parent parent below p))
    ]) d

pub proof_refused : (parent : Level) (below : List Level) (f : Tree) (p : Proof) (code : Code)
    → derived_in p.ranks p.limit (holds f) p.next_derived (record { facts = parent.facts; goal = parent.goal })
    ≡ Err code
    → after (derive (holds f) (on_parent parent below p)) (if_settled (λ q. rise below q.current q)) ≡ Err code
proof_refused parent below f p code e =
    ap (λ r. after r (if_settled (λ q. rise below q.current q)))
    (derive_by (holds f) (on_parent parent below p)
    ∙ ap (λ r. after r (λ w. Ok (with_derived w (on_parent parent below p)))) e)

-- ---- where the current goal is proved

pub settle_open : (p : Proof) → is_settled p.current ≡ false → settle_goal p ≡ Ok p
settle_open p d = ap (λ b. elim b [ true ↦ rise p.below p.current p | false ↦ Ok p ]) d

pub settle_proved : (p : Proof) → is_settled p.current ≡ true → settle_goal p ≡ rise p.below p.current p
settle_proved p d = ap (λ b. elim b [ true ↦ rise p.below p.current p | false ↦ Ok p ]) d
