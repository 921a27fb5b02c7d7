-- Texts cut at a byte, and numbers as they are written.
use Rattle.std.proofs.Common.{◌≡◌, ◌<◌, ◌≤◌, ◌+◌, ◌-◌, ◌==◌, ℕ, false, inl, inr, List, [], ◌∷◌, ◌++◌, drop}
use Rattle.std.proofs.Common.{get_or, length, take, All, None, Some, sym, ◌∙◌, ap, subst, arith}
use Rattle.std.specs.Prelude.{bytes_eq, decimal}
use Rattle.std.proofs.lemmas.Bool.{cases_Bool, cases_eq, eq-eqb, ne_eqb}
use Rattle.std.proofs.lemmas.List.{take_rest, take-append-drop, take_all, take_more, length-drop}
use Rattle.std.proofs.lemmas.List.Elements.{All-push}
use Rattle.std.proofs.lemmas.List.Splits.{slice_split_at, slice_split_none}
use Rattle.std.proofs.lemmas.Option.{none-some, same_Some}
use Rattle.std.proofs.lemmas.Slice.Eq.{bytes_eq-Decides}
use Rattle.larch_certificate_text.specs.ListText.{split_at}
use Rattle.larch_certificate_text.specs.Parts.{IsSmall, read_number}
use Rattle.larch_certificate_text.proofs.Numbers.{number_again, number_read}
use Rattle.larch_models.specs.Reading.{IsCut}
use Rattle.larch_models.proofs.Rests.{drop_item}

-- none of the bytes is this one
abbrev pub Lacks : ℕ → List ℕ → Type 0
Lacks c text = All (λ b. (b == c) ≡ false) text

pub cut_found : (c i : ℕ) (text : List ℕ) → i < length text → get_or text i 0 ≡ c → Lacks c (take i text)
    → IsCut c text (take i text) (take (length text - (i + 1)) (drop (i + 1) text))
cut_found c i text l e h =
    let whole : text ≡ take i text ++ get_or text i 0 ∷ drop (i + 1) text =
    sym (take-append-drop i text) ∙ ap (λ z. take i text ++ z) (drop_item text i 0 l) in
    rw (take_rest text (i + 1)) (record {
      parts = ap (split_at c) whole
          ∙ slice_split_at (λ b. b == c) (take i text) (get_or text i 0) (drop (i + 1) text) h
          (eq-eqb (get_or text i 0) c e);
      shorter = omega (arith, length-drop (i + 1) text, l);
    })

pub cut_missing : (c i : ℕ) (text : List ℕ) → length text ≤ i → Lacks c (take i text)
    → split_at c text ≡ text ∷ []
cut_missing c i text l h = slice_split_none (λ b. b == c) text (rw (take_all i text l) at h)

-- ---- numbers

number_is_not : (text : List ℕ) (k : ℕ) → IsSmall k → (read_number text ≡ Some k → ⊥)
    → bytes_eq text (decimal k) ≡ false
number_is_not text k s n =
    elim (cases_Bool (bytes_eq text (decimal k))) [
      | inl t ↦ absurd (n (ap read_number ((bytes_eq-Decides text (decimal k)).0 t) ∙ number_again k s))
      | inr f ↦ f
    ]

pub number_test : (text : List ℕ) (k n : ℕ) → IsSmall k → Some n ≡ read_number text
    → (n == k) ≡ bytes_eq text (decimal k)
number_test text k n s e =
    elim (cases_eq n k) [
      | inl i ↦ eq-eqb n k i
          ∙ sym ((bytes_eq-Decides text (decimal k)).1 (number_read text k (sym e ∙ ap Some i)).0)
      | inr i ↦ ne_eqb n k i ∙ sym (number_is_not text k s (λ o. i (same_Some n k (e ∙ o))))
    ]

pub number_test_none : (text : List ℕ) (k : ℕ) → IsSmall k → None ≡ read_number text → false ≡ bytes_eq text (decimal k)
number_test_none text k s e = sym (number_is_not text k s (λ o. none-some k (e ∙ o)))

pub lacks_more : (c i : ℕ) (text : List ℕ) → i < length text → (get_or text i 0 ≡ c → ⊥) → Lacks c (take i text)
    → Lacks c (take (i + 1) text)
lacks_more c i text l h k =
    subst (Lacks c) (sym (take_more text i 0 l))
    (All-push (λ b. (b == c) ≡ false) (take i text) (get_or text i 0) k (ne_eqb (get_or text i 0) c h))
