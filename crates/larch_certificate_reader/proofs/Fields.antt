-- The fields of a line are taken one by one.
use Rattle.std.proofs.Common.{◌≡◌, ℕ, ◌<◌, ◌==◌, cond, Bool, true, false, List, [], ◌∷◌, length, Some, None, refl, sym}
use Rattle.std.proofs.Common.{◌∙◌, ap, arith, inl, inr}
use Rattle.std.specs.Prelude.{decimal, bytes_eq, option_map, option_and_then}
use Rattle.std.proofs.lemmas.Bool.{cases_Bool, cases_eq, eq-eqb, ne_eqb}
use Rattle.std.proofs.lemmas.Option.{none-some, same_Some}
use Rattle.std.proofs.lemmas.Slice.Eq.{bytes_eq-Decides}
use Rattle.std.proofs.lemmas.List.Splits.{length-slice_split}
use Rattle.larch_certificate_text.specs.declared.here.Here.{Here}
use Rattle.larch_certificate_text.specs.ListText.{split_at}
use Rattle.larch_certificate_text.specs.Parts.{IsSmall, cut_at, read_number}
use Rattle.larch_certificate_text.specs.LineText.{one_of, two_of, three_of, four_of, split_at_bar, barred_by, behind}
use Rattle.larch_certificate_text.specs.LineText.{read_done, read_rule, read_fields, read_line}
use Rattle.larch_certificate_reader.proofs.ListSteps.{split_cut, split_uncut}
use Rattle.larch_certificate_text.proofs.Numbers.{number_again, number_read}

pub split_some : (c : ℕ) (text : List ℕ) → 0 < length (split_at c text)
split_some c text = omega (arith, length-slice_split (λ b. b == c) text)

one_more : (x : List ℕ) (ys : List (List ℕ)) → 0 < length ys → one_of (x ∷ ys) ≡ None
one_more x [] l = absurd (omega (arith, l))
one_more x (y ∷ ys) l = refl

pub one_cut : (c : ℕ) (text x y : List ℕ) → Some (x, y) ≡ cut_at c text → one_of (split_at c text) ≡ None
one_cut c text x y e = ap one_of (split_cut c text x y (sym e)) ∙ one_more x (split_at c y) (split_some c y)

pub one_uncut : (c : ℕ) (text : List ℕ) → None ≡ cut_at c text → one_of (split_at c text) ≡ Some text
one_uncut c text e = ap one_of (split_uncut c text (sym e))

pub two_cut : (c : ℕ) (text x y : List ℕ) → Some (x, y) ≡ cut_at c text
    → two_of (split_at c text) ≡ option_map (behind x) (one_of (split_at c y))
two_cut c text x y e = ap two_of (split_cut c text x y (sym e))

pub two_uncut : (c : ℕ) (text : List ℕ) → None ≡ cut_at c text → two_of (split_at c text) ≡ None
two_uncut c text e = ap two_of (split_uncut c text (sym e))

pub three_cut : (c : ℕ) (text x y : List ℕ) → Some (x, y) ≡ cut_at c text
    → three_of (split_at c text) ≡ option_map (behind x) (two_of (split_at c y))
three_cut c text x y e = ap three_of (split_cut c text x y (sym e))

pub three_uncut : (c : ℕ) (text : List ℕ) → None ≡ cut_at c text → three_of (split_at c text) ≡ None
three_uncut c text e = ap three_of (split_uncut c text (sym e))

pub four_cut : (c : ℕ) (text x y : List ℕ) → Some (x, y) ≡ cut_at c text
    → four_of (split_at c text) ≡ option_map (behind x) (three_of (split_at c y))
four_cut c text x y e = ap four_of (split_cut c text x y (sym e))

pub four_uncut : (c : ℕ) (text : List ℕ) → None ≡ cut_at c text → four_of (split_at c text) ≡ None
four_uncut c text e = ap four_of (split_uncut c text (sym e))

pub barred_cut : (c : ℕ) (text x y : List ℕ) → Some (x, y) ≡ cut_at c text
    → split_at_bar (split_at c text) ≡ option_and_then (barred_by x) (two_of (split_at c y))
barred_cut c text x y e = ap split_at_bar (split_cut c text x y (sym e))

pub barred_uncut : (c : ℕ) (text : List ℕ) → None ≡ cut_at c text → split_at_bar (split_at c text) ≡ None
barred_uncut c text e = ap split_at_bar (split_uncut c text (sym e))

done_more : (ys : List (List ℕ)) → 0 < length ys → read_done ys ≡ None
done_more [] l = absurd (omega (arith, l))
done_more (y ∷ ys) l = refl

pub done_parts : (c : ℕ) (text : List ℕ) → read_done (split_at c text) ≡ None
done_parts c text = done_more (split_at c text) (split_some c text)

pub rule_cut : (h : Here) (text x y : List ℕ) → Some (x, y) ≡ cut_at 32 text
    → read_rule h (split_at 32 text) ≡ read_rule h (x ∷ split_at 32 y)
rule_cut h text x y e = ap (read_rule h) (split_cut 32 text x y (sym e))

pub rule_uncut : (h : Here) (text : List ℕ) → None ≡ cut_at 32 text
    → read_rule h (split_at 32 text) ≡ read_rule h (text ∷ [])
rule_uncut h text e = ap (read_rule h) (split_uncut 32 text (sym e))

cond_same : {A : Type 0} (b : Bool) (x : A) → cond b x x ≡ x
cond_same true x = refl
cond_same false x = refl

pub line_cut : (h : Here) (text x y : List ℕ) → h.relative ≡ false → Some (x, y) ≡ cut_at 32 text
    → read_line h text ≡ cond (bytes_eq x (decimal h.line)) (read_rule h (split_at 32 y)) None
line_cut h text x y n e =
    ap (λ b. read_fields h b (split_at 32 text)) n ∙ ap (read_fields h false) (split_cut 32 text x y (sym e))

pub line_uncut : (h : Here) (text : List ℕ) → h.relative ≡ false → None ≡ cut_at 32 text → read_line h text ≡ None
line_uncut h text n e =
    ap (λ b. read_fields h b (split_at 32 text)) n ∙ ap (read_fields h false) (split_uncut 32 text (sym e))
    ∙ cond_same (bytes_eq text (decimal h.line)) None

-- a text is the text of a number exactly where that number is read
pub number_is : (text : List ℕ) (k : ℕ) → IsSmall k → read_number text ≡ Some k → bytes_eq text (decimal k) ≡ true
number_is text k s e = (bytes_eq-Decides text (decimal k)).1 (number_read text k e).0

pub number_is_not : (text : List ℕ) (k : ℕ) → IsSmall k → (read_number text ≡ Some k → ⊥)
    → bytes_eq text (decimal k) ≡ false
number_is_not text k s n =
    elim (cases_Bool (bytes_eq text (decimal k))) [
      | inl t ↦ absurd (n (ap read_number ((bytes_eq-Decides text (decimal k)).0 t) ∙ number_again k s))
      | inr f ↦ f
    ]

pub number_test : (text : List ℕ) (k n : ℕ) → IsSmall k → Some n ≡ read_number text
    → (n == k) ≡ bytes_eq text (decimal k)
number_test text k n s e =
    elim (cases_eq n k) [
      | inl i ↦ eq-eqb n k i ∙ sym (number_is text k s (sym e ∙ ap Some i))
      | inr i ↦ ne_eqb n k i ∙ sym (number_is_not text k s (λ o. i (same_Some n k (e ∙ o))))
    ]

pub number_test_none : (text : List ℕ) (k : ℕ) → IsSmall k → None ≡ read_number text → false ≡ bytes_eq text (decimal k)
number_test_none text k s e = sym (number_is_not text k s (λ o. none-some k (e ∙ o)))
