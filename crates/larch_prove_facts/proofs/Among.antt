-- Facts by name, and what their critical pairs come to.
use Rattle.std.specs.Prelude.{◌≡◌, Bool, true, false, cond, List, [], ◌∷◌, All, Option, None, Some, Result, Ok, Err}
use Rattle.std.specs.Prelude.{find, refl}
use Rattle.std.proofs.Common.{ap, subst, sym, ◌∙◌}
use Rattle.std.proofs.lemmas.List.Elements.{All-head, All-tail, All-weaker}
use Rattle.larch_base.specs.declared.code.Code.{Code}
use Rattle.larch_base.specs.declared.fact_name.FactName.{FactName}
use Rattle.larch_pairs_critical.specs.Overlap.{IsApplication}
use Rattle.larch_pairs_critical.specs.Pairs.{critical_pairs}
use Rattle.larch_prove_facts.specs.Derivation.{all_settled}
use Rattle.larch_prove_facts.specs.Pairs.{RewriteApplications, pairs_among}
use Rattle.larch_prove_meaning.proofs.LevelSorts.{ok_inj}
use Rattle.larch_prove_meaning.specs.Facts.{Fact, Facts}
use Rattle.larch_prove_meaning.specs.Levels.{Proof, derive, settle_goal}
use Rattle.larch_prove_meaning.specs.Steps.{all_derived, equations_of, fact_named, has_name, normalize, pair_facts}
use Rattle.larch_prove_meaning.specs.Steps.{own_operators, rule_of, sides_or, without}
use Rattle.larch_prove_meaning.specs.WellSorted.{IsFactOver, IsLevelOver, IsWellSortedProof}
use Rattle.larch_prove_facts.proofs.Turns.{one_settled}
use Rattle.larch_prove_work.specs.ProveSettingsTelling.{Tells}
use Rattle.larch_prove_work.specs.ProveSettingsRefusalCommandRefusal.{CommandRefusal}
use Rattle.larch_prove_work.proofs.Readings.{tells_as, tells_before}
use Rattle.larch_rewrite_meaning.specs.Sides.{Sides}
use Rattle.larch_script_commands.specs.Same.{same_fact_name}
use Rattle.larch_base_meaning.specs.Steps.{after}

-- ---- facts that rewrite no variable

first_applied : (b : Bool) (f : Fact) (o : Option Fact) (e : Sides) → IsApplication f.sides.left
    → (sides_or o ≡ Ok e → IsApplication e.left) → sides_or (cond b (Some f) o) ≡ Ok e → IsApplication e.left
first_applied true f o e h go k = subst (λ (d : Sides). IsApplication d.left) (ok_inj k) h
first_applied false f o e h go k = go k

pub named_applied : (test : Fact → Bool) (fs : List Fact) (e : Sides)
    → All (λ (fact : Fact). IsApplication fact.sides.left) fs → sides_or (find test fs) ≡ Ok e → IsApplication e.left
named_applied test [] e h k = absurd (cc)
named_applied test (f ∷ fs) e h k =
    first_applied (test f) f (find test fs) e (All-head (λ (fact : Fact). IsApplication fact.sides.left) f fs h)
    (λ q. named_applied test fs e (All-tail (λ (fact : Fact). IsApplication fact.sides.left) f fs h) q) k

-- none of a well sorted proof's does
pub sorted_apply : (p : Proof) → IsWellSortedProof p → RewriteApplications p.current.facts
sorted_apply p w =
    let level = All-head (IsLevelOver (own_operators p)) p.current p.below w.levels in
    All-weaker (IsFactOver (own_operators p)) (λ (fact : Fact). IsApplication fact.sides.left) (λ f h. h.1)
    p.current.facts.rules level.facts

-- ---- normal forms of facts

pub normalized_so : (n : FactName) (p : Proof) (facts : Facts) (e : Sides) → facts ≡ p.current.facts
    → sides_or (find (has_name n) facts.rules) ≡ Ok e
    → normalize n p ≡ all_settled (e ∷ []) (without n p)
normalized_so n p facts e is h =
    ap (λ r. after r (λ d. after (derive d (without n p)) settle_goal))
    (ap (λ (fs : Facts). sides_or (find (has_name n) fs.rules)) (sym is) ∙ h)
    ∙ sym (one_settled e (without n p))

pub unnamed : (n : FactName) (p : Proof) (facts : Facts) (r : CommandRefusal) → facts ≡ p.current.facts
    → Tells (sides_or (find (has_name n) facts.rules)) r → Tells (normalize n p) r
unnamed n p facts r is h =
    tells_before (fact_named n p) (λ d. after (derive d (without n p)) settle_goal) r
    (tells_as (fact_named n p) _ r (ap (λ (fs : Facts). sides_or (find (has_name n) fs.rules)) (sym is)) h)

-- ---- pairs of facts

pub among_so : (n m : FactName) (facts : Facts) (e d : Sides) (one : Bool) (answer : Result (List Sides) Code)
    → sides_or (find (has_name n) facts.rules) ≡ Ok e → sides_or (find (has_name m) facts.rules) ≡ Ok d
    → one ≡ same_fact_name n m → equations_of (critical_pairs (rule_of e) (rule_of d) one) ≡ answer
    → pairs_among n m facts ≡ answer
among_so n m facts e d one answer h k b q =
    ap (λ r. after r (λ x. after (sides_or (find (has_name m) facts.rules)) (λ y.
    equations_of (critical_pairs (rule_of x) (rule_of y) (same_fact_name n m))))) h
    ∙ ap (λ r. after r (λ y. equations_of (critical_pairs (rule_of e) (rule_of y) (same_fact_name n m)))) k
    ∙ ap (λ c. equations_of (critical_pairs (rule_of e) (rule_of d) c)) (sym b) ∙ q

-- where the first is refused, or the second
pub first_unnamed : (n m : FactName) (facts : Facts) (r : CommandRefusal)
    → Tells (sides_or (find (has_name n) facts.rules)) r → Tells (pairs_among n m facts) r
first_unnamed n m facts r h = tells_before (sides_or (find (has_name n) facts.rules)) _ r h

pub second_unnamed : (n m : FactName) (facts : Facts) (e : Sides) (r : CommandRefusal)
    → sides_or (find (has_name n) facts.rules) ≡ Ok e → Tells (sides_or (find (has_name m) facts.rules)) r
    → Tells (pairs_among n m facts) r
second_unnamed n m facts e r h k =
    tells_as (pairs_among n m facts) _ r
    (ap (λ x. after x (λ d. after (sides_or (find (has_name m) facts.rules)) (λ y.
    equations_of (critical_pairs (rule_of d) (rule_of y) (same_fact_name n m))))) h)
    (tells_before (sides_or (find (has_name m) facts.rules)) _ r k)

pairs_then : (x y : Result Sides Code) (f : Sides → Sides → Result (List Sides) Code)
    (next : List Sides → Result Proof Code)
    → after x (λ e. after y (λ d. after (f e d) next)) ≡ after (after x (λ e. after y (λ d. f e d))) next
pairs_then (Err code) y f next = refl
pairs_then (Ok e) (Err code) f next = refl
pairs_then (Ok e) (Ok d) f next = refl

pub paired_so : (n m : FactName) (p : Proof) (facts : Facts) → facts ≡ p.current.facts
    → pair_facts n m p ≡ after (pairs_among n m facts) (λ found. all_settled found p)
paired_so n m p facts is =
    pairs_then (fact_named n p) (fact_named m p)
    (λ e d. equations_of (critical_pairs (rule_of e) (rule_of d) (same_fact_name n m)))
    (λ found. all_settled found p)
    ∙ ap (λ (fs : Facts). after (pairs_among n m fs) (λ found. all_settled found p)) (sym is)

-- the pairs are added, or refused
pub pairs_added : (n m : FactName) (p : Proof) (facts : Facts) (found : List Sides) → facts ≡ p.current.facts
    → pairs_among n m facts ≡ Ok found → pair_facts n m p ≡ all_settled found p
pairs_added n m p facts found is h =
    paired_so n m p facts is ∙ ap (λ r. after r (λ es. all_settled es p)) h

pub pairs_refused : (n m : FactName) (p : Proof) (facts : Facts) (r : CommandRefusal) → facts ≡ p.current.facts
    → Tells (pairs_among n m facts) r → Tells (pair_facts n m p) r
pairs_refused n m p facts r is h =
    tells_as (pair_facts n m p) _ r (paired_so n m p facts is) (tells_before (pairs_among n m facts) _ r h)
