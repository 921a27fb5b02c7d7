-- Hypotheses that lines say in turn.
use Rattle.std.specs.Prelude.{◌≡◌, ◌+◌, ◌-◌, ◌<◌, ◌==◌, ℕ, zero, suc, cond, false, List, [], ◌∷◌, ◌++◌, length}
use Rattle.std.specs.Prelude.{None, Some, refl}
use Rattle.std.specs.List.{AllZip, slice_get}
use Rattle.std.proofs.Common.{ap₂, arith, subst, take, ◌∙◌}
use Rattle.larch_base.specs.ByNumber.{numbered}
use Rattle.larch_term.specs.declared.statement.Statement.{Statement}
use Rattle.larch_derive.specs.Predicates.{Extends, HasStatement}
use Rattle.larch_derive.specs.declared.builder.Builder.{Builder}
use Rattle.larch_derive.proofs.Growth.{extends_trans, stays_said}

-- ---- lists

-- what stands at a place comes behind what stands before it
zip_next : {A B : Type 0} (R S : A → B → Type 0) → ((x : A) (n : B) → R x n → S x n) → (xs : List A) (i : ℕ)
    (n : B) (ns : List B) → i < length xs → ((x : A) → slice_get xs i ≡ Some x → S x n) → AllZip R (take i xs) ns
    → AllZip S (take (suc i) xs) (ns ++ n ∷ [])
zip_next R S f [] i n ns lt h z = absurd (omega (arith, lt))
zip_next R S f (x ∷ xs) zero n [] lt h z = (h x refl, tt)
zip_next R S f (x ∷ xs) zero n (m ∷ ns) lt h z = absurd z
zip_next R S f (x ∷ xs) (suc i) n [] lt h z = absurd z
zip_next R S f (x ∷ xs) (suc i) n (m ∷ ns) lt h (p, z) =
    (f x m p, zip_next R S f xs i n ns (omega (arith, lt)) h z)

element_at : {A : Type 0} (xs : List A) (i : ℕ) → i < length xs → (x : A) × (slice_get xs i ≡ Some x)
element_at [] i lt = absurd (omega (arith, lt))
element_at (x ∷ xs) zero lt = (x, refl)
element_at (x ∷ xs) (suc i) lt = element_at xs i (omega (arith, lt))

not_nought : (n i : ℕ) → n ≡ i + 1 → (n == 0) ≡ false
not_nought n i e = grind (arith, e)

one_less : (n i : ℕ) → n ≡ i + 1 → n - 1 ≡ i
one_less n i e = omega (arith, e)

-- a place has the number behind it
at_next : {A : Type 0} (xs : List A) (i : ℕ) → numbered xs (i + 1) ≡ slice_get xs i
at_next xs i =
    ap₂ (λ b k. cond b None (slice_get xs k)) (not_nought (i + 1) i refl) (one_less (i + 1) i refl)

-- ---- lines

-- one hypothesis more is said, and the others are still
pub said_further : (a b c : Builder) (hs : List Statement) (i line : ℕ) (ns : List ℕ) → i < length hs
    → Extends a b × AllZip (λ s n. HasStatement b n s) (take i hs) ns
    → ((s : Statement) → numbered hs (i + 1) ≡ Some s → HasStatement c line s)
    → ((s : Statement) → numbered hs (i + 1) ≡ Some s → Extends b c)
    → Extends a c × AllZip (λ s n. HasStatement c n s) (take (i + 1) hs) (ns ++ line ∷ [])
said_further a b c hs i line ns lt (x, z) says extends =
    let there = element_at hs i lt in
    let y = extends there.0 (at_next hs i ∙ there.1) in
    let next : suc i ≡ i + 1 = omega arith in (
      extends_trans a b c x y,
      subst (λ k. AllZip (λ s n. HasStatement c n s) (take k hs) (ns ++ line ∷ [])) next
          (zip_next (λ s n. HasStatement b n s) (λ s n. HasStatement c n s) (λ s n h. stays_said b c n s y h) hs i
          line ns lt (λ s e. says s (at_next hs i ∙ e)) z),
    )
