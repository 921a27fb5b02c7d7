-- What was found, and what it tells.
use Rattle.std.proofs.Common.{◌≡◌, ℕ, ◌⊎◌, inl, inr, Bool, true, false, cond, List, [], ◌∷◌, Contains, Option, Some}
use Rattle.std.proofs.Common.{None, refl, sym, ◌∙◌, ap, subst}
use Rattle.std.specs.Bool.{Decides}
use Rattle.std.specs.List.{fold}
use Rattle.larch_base.proofs.Members.{contains_here, contains_later, contains_cases, contains_none}
use Rattle.larch_sorts_meaning.specs.Readings.{IsOnly}
use Rattle.larch_sorts_meaning.specs.Found.{Tells, merged_by, with_found}
use Rattle.larch_sorts_meaning.specs.declared.found.Found.{Found}
use Rattle.larch_sorts_meaning.specs.declared.found.Found.TheVariants.{One, Several}

-- what is told of one property is told of each that has the same things
pub tells_same : {A : Type 0} (P Q : A → Type 0) → ((x : A) → P x → Q x) → ((x : A) → Q x → P x)
    → (found : Option (Found A)) → Tells found P → Tells found Q
tells_same P Q to from None h = λ x q. h x (from x q)
tells_same P Q to from (Some (One x)) h = (to x h.0, λ y q. h.1 y (from y q))
tells_same P Q to from (Some Several) h = (h.0, h.1, to h.0 h.2, to h.1 h.3, h.4)

-- what is found twice is the same
pub tells_once : {A : Type 0} (P : A → Type 0) (found other : Option (Found A)) → Tells found P → Tells other P
    → found ≡ other
tells_once P None None h k = refl
tells_once P None (Some (One x)) h k = absurd (h x k.0)
tells_once P None (Some Several) h k = absurd (h k.0 k.2)
tells_once P (Some (One x)) None h k = absurd (k x h.0)
tells_once P (Some (One x)) (Some (One y)) h k = ap (λ z. Some (One z)) (k.1 x h.0)
tells_once P (Some (One x)) (Some Several) h k = absurd (k.4 (h.1 k.0 k.2 ∙ sym (h.1 k.1 k.3)))
tells_once P (Some Several) None h k = absurd (k h.0 h.2)
tells_once P (Some Several) (Some (One y)) h k = absurd (h.4 (k.1 h.0 h.2 ∙ sym (k.1 h.1 h.3)))
tells_once P (Some Several) (Some Several) h k = refl

one_by : {A : Type 0} (same : A → A → Bool) (P Q : A → Type 0) (t u : A) (b : Bool) → same t u ≡ b
    → Decides (same t u) (t ≡ u) → IsOnly P t → IsOnly Q u → Tells (Some (cond b (One u) Several)) (λ x. P x ⊎ Q x)
one_by same P Q t u true e d h k =
    let tu : t ≡ u = d.0 e in
    (inr k.0, λ y. λ p. elim p [ inl a ↦ h.1 y a ∙ tu | inr b ↦ k.1 y b ])
one_by same P Q t u false e d h k = (t, u, inl h.0, inr k.0, λ tu. let y : same t u ≡ true = d.1 tu in cc)

-- what was found before together with what was found now
pub tells_merged : {A : Type 0} (same : A → A → Bool) → ((t u : A) → Decides (same t u) (t ≡ u))
    → (P Q : A → Type 0) (before : Option (Found A)) (now : Found A) → Tells before P → Tells (Some now) Q
    → Tells (Some (merged_by same before now)) (λ x. P x ⊎ Q x)
tells_merged same d P Q None (One u) h k = (inr k.0, λ y p. elim p [ inl a ↦ absurd (h y a) | inr b ↦ k.1 y b ])
tells_merged same d P Q None Several h k = (k.0, k.1, inr k.2, inr k.3, k.4)
tells_merged same d P Q (Some Several) (One u) h k = (h.0, h.1, inl h.2, inl h.3, h.4)
tells_merged same d P Q (Some Several) Several h k = (h.0, h.1, inl h.2, inl h.3, h.4)
tells_merged same d P Q (Some (One t)) Several h k = (k.0, k.1, inr k.2, inr k.3, k.4)
tells_merged same d P Q (Some (One t)) (One u) h k = one_by same P Q t u (same t u) refl (d t u) h k

-- what was found before together with what was found now, if anything
pub tells_with_found : {A : Type 0} (same : A → A → Bool) → ((t u : A) → Decides (same t u) (t ≡ u))
    → (P Q : A → Type 0) (before now : Option (Found A)) → Tells before P → Tells now Q
    → Tells (with_found same before now) (λ x. P x ⊎ Q x)
tells_with_found same d P Q before None h k =
    tells_same P (λ x. P x ⊎ Q x) (λ x p. inl p) (λ x p. elim p [ inl a ↦ a | inr b ↦ absurd (k x b) ]) before h
tells_with_found same d P Q before (Some now) h k = tells_merged same d P Q before now h k

-- what was found at each of some sorts
pub tells_at_sorts : {A : Type 0} (same : A → A → Bool) → ((t u : A) → Decides (same t u) (t ≡ u))
    → (R : A → Type 0) (sort : A → List ℕ) (found : List ℕ → Option (Found A))
    → ((s : List ℕ) → Tells (found s) (λ x. R x × (sort x ≡ s)))
    → (Q : A → Type 0) (before : Option (Found A)) (ss : List (List ℕ)) → Tells before Q
    → Tells (fold (λ b s. with_found same b (found s)) before ss) (λ x. Q x ⊎ (R x × Contains ss (sort x)))
tells_at_sorts same d R sort found h Q before [] k =
    tells_same Q (λ x. Q x ⊎ (R x × Contains [] (sort x))) (λ x q. inl q)
    (λ x p. elim p [ inl a ↦ a | inr b ↦ absurd (contains_none (sort x) b.1) ]) before k
tells_at_sorts same d R sort found h Q before (s ∷ ss) k =
    tells_same (λ x. (Q x ⊎ (R x × (sort x ≡ s))) ⊎ (R x × Contains ss (sort x)))
    (λ x. Q x ⊎ (R x × Contains (s ∷ ss) (sort x)))
    (λ x p. elim p [
      | inl a ↦ elim a [ inl q ↦ inl q | inr b ↦ inr (b.0, subst (Contains (s ∷ ss)) (sym b.1) (contains_here s ss)) ]
      | inr b ↦ inr (b.0, contains_later s (sort x) ss b.1)
    ])
    (λ x p. elim p [
      | inl q ↦ inl (inl q)
      | inr b ↦ elim (contains_cases s (sort x) ss b.1) [ inl e ↦ inl (inr (b.0, sym e)) | inr c ↦ inr (b.0, c) ]
    ])
    (fold (λ b z. with_found same b (found z)) (with_found same before (found s)) ss)
    (tells_at_sorts same d R sort found h (λ x. Q x ⊎ (R x × (sort x ≡ s))) (with_found same before (found s)) ss
    (tells_with_found same d Q (λ x. R x × (sort x ≡ s)) before (found s) k (h s)))

-- what was found at all sorts that things have
pub tells_at_all : {A : Type 0} (same : A → A → Bool) → ((t u : A) → Decides (same t u) (t ≡ u))
    → (R : A → Type 0) (sort : A → List ℕ) (found : List ℕ → Option (Found A))
    → ((s : List ℕ) → Tells (found s) (λ x. R x × (sort x ≡ s))) → (ss : List (List ℕ))
    → ((x : A) → R x → Contains ss (sort x)) → Tells (fold (λ b s. with_found same b (found s)) None ss) R
tells_at_all same d R sort found h ss all =
    tells_same (λ x. ⊥ ⊎ (R x × Contains ss (sort x))) R (λ x p. elim p [ inl a ↦ absurd a | inr b ↦ b.0 ])
    (λ x r. inr (r, all x r)) (fold (λ b s. with_found same b (found s)) None ss)
    (tells_at_sorts same d R sort found h (λ x. ⊥) None ss (λ x p. p))
