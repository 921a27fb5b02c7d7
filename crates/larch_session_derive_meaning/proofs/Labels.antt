-- Labels are told apart by their texts.
use Rattle.std.proofs.Common.{◌≡◌, refl, sym, ap, ◌∙◌, arith, ℕ, ◌<◌, ◌^◌, Bool, true, false, ◌==◌, List, ◌++◌, codes}
use Rattle.std.proofs.Common.{decimal, inl, inr}
use Rattle.std.specs.Prelude.{bytes_eq}
use Rattle.std.specs.Cmp.Lexicographic.{bytes_decides}
use Rattle.std.proofs.lemmas.Bool.Decides.{nat_tests}
use Rattle.std.proofs.lemmas.Fmt.{decimal_injective}
use Rattle.std.proofs.lemmas.List.{append_cancel_left}
use Rattle.larch_base.proofs.Bools.{true_or_false}
use Rattle.larch_base.specs.Label.{label_text}
use Rattle.larch_base.specs.declared.label.Label.{Label}
use Rattle.larch_base.specs.declared.label.Label.TheVariants.{Assume, Imply, Convert}
use Rattle.larch_duties_meaning.specs.Claims.{same_label}

-- the number of a label
abbrev pub number_of : Label → ℕ
number_of (Assume n) = n
number_of (Imply n) = n
number_of (Convert n) = n

own_number : (n : ℕ) → (n == n) ≡ true
own_number n = grind (arith, nat_tests)

same_number : (n m : ℕ) → (n == m) ≡ true → n ≡ m
same_number n m e = grind (arith, nat_tests, e)

clash : (b : Bool) → b ≡ true → b ≡ false → ⊥
clash true e f = cc
clash false e f = cc

text_self : (text : List ℕ) → bytes_eq text text ≡ true
text_self text = (bytes_decides text text).1 refl

text_other : (text other : List ℕ) → (text ≡ other → ⊥) → bytes_eq text other ≡ false
text_other text other differ = elim (true_or_false (bytes_eq text other)) [
  | inl same ↦ absurd (differ ((bytes_decides text other).0 same))
  | inr unlike ↦ unlike
]

-- numbers behind the same front
same_behind : (front : List ℕ) (a b : ℕ) → a < 2 ^ 64 → b < 2 ^ 64
    → bytes_eq (front ++ decimal a) (front ++ decimal b) ≡ (a == b)
same_behind front a b p q = elim (true_or_false (a == b)) [
  | inl same ↦ ap (λ n. bytes_eq (front ++ decimal a) (front ++ decimal n)) (sym (same_number a b same))
      ∙ text_self (front ++ decimal a) ∙ sym same
  | inr unlike ↦ text_other (front ++ decimal a) (front ++ decimal b) (λ e.
      let s : a ≡ b = decimal_injective a b p q (append_cancel_left front (decimal a) (decimal b) e) in
      clash (a == b) (ap (λ n. a == n) (sym s) ∙ own_number a) unlike) ∙ sym unlike
]

pub same_text : (l m : Label) → number_of l < 2 ^ 64 → number_of m < 2 ^ 64
    → bytes_eq (label_text l) (label_text m) ≡ same_label l m
same_text (Assume a) (Assume b) p q = same_behind (codes "assume.") a b p q
same_text (Imply a) (Imply b) p q = same_behind (codes "imply.") a b p q
same_text (Convert a) (Convert b) p q = same_behind (codes "convert.") a b p q
same_text (Assume a) (Imply b) p q = refl
same_text (Assume a) (Convert b) p q = refl
same_text (Imply a) (Assume b) p q = refl
same_text (Imply a) (Convert b) p q = refl
same_text (Convert a) (Assume b) p q = refl
same_text (Convert a) (Imply b) p q = refl

-- one label has one number
pub same_numbers : (l m : Label) → same_label l m ≡ true → number_of l ≡ number_of m
same_numbers (Assume a) (Assume b) e = same_number a b e
same_numbers (Imply a) (Imply b) e = same_number a b e
same_numbers (Convert a) (Convert b) e = same_number a b e
same_numbers (Assume a) (Imply b) e = absurd (cc)
same_numbers (Assume a) (Convert b) e = absurd (cc)
same_numbers (Imply a) (Assume b) e = absurd (cc)
same_numbers (Imply a) (Convert b) e = absurd (cc)
same_numbers (Convert a) (Assume b) e = absurd (cc)
same_numbers (Convert a) (Imply b) e = absurd (cc)
