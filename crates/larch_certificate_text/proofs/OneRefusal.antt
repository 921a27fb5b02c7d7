-- There is one first text line outside the grammar.
use Rattle.std.proofs.Common.{◌≡◌, ℕ, ◌+◌, List, [], ◌∷◌, Bool, refl, sym, ◌∙◌, ◌⊎◌, inl, inr}
use Rattle.larch_certificate_text.specs.CertificateText.{InGrammar, FirstOutside, no_line, not_ended, further}

-- the same as a recursion
abbrev pub Outside : Bool → ℕ → List (List ℕ) → ℕ → Type 0
Outside v n [] k = ⊥
Outside v n (x ∷ []) k = n + 1 ≡ k
Outside v n (x ∷ y ∷ ys) k = ((InGrammar v n x → ⊥) × (n + 1 ≡ k)) ⊎ (InGrammar v n x × Outside v (n + 1) (y ∷ ys) k)

recursion : (v : Bool) (n : ℕ) (xs : List (List ℕ)) (k : ℕ) → FirstOutside v n xs k → Outside v n xs k
recursion v n xs k (no_line f) = inl (f, refl)
recursion v n xs k not_ended = refl
recursion v n xs k (further {x = x} {y = y} {ys = ys} g o) = inr (g, recursion v (n + 1) (y ∷ ys) k o)

one_outside : (v : Bool) (n : ℕ) (xs : List (List ℕ)) (k m : ℕ) → Outside v n xs k → Outside v n xs m → k ≡ m
one_outside v n [] k m a b = absurd a
one_outside v n (x ∷ []) k m a b = sym a ∙ b
one_outside v n (x ∷ y ∷ ys) k m (inl a) (inl b) = sym a.1 ∙ b.1
one_outside v n (x ∷ y ∷ ys) k m (inl a) (inr b) = absurd (a.0 b.0)
one_outside v n (x ∷ y ∷ ys) k m (inr a) (inl b) = absurd (b.0 a.0)
one_outside v n (x ∷ y ∷ ys) k m (inr a) (inr b) = one_outside v (n + 1) (y ∷ ys) k m a.1 b.1

pub one_refusal : (v : Bool) (n : ℕ) (xs : List (List ℕ)) (k m : ℕ) → FirstOutside v n xs k
    → FirstOutside v n xs m → k ≡ m
one_refusal v n xs k m a b = one_outside v n xs k m (recursion v n xs k a) (recursion v n xs m b)
