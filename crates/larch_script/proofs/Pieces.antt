-- The lines of a text, cut off one by one.
use Rattle.std.proofs.Common.{ℕ, ◌≢◌, ◌≡◌, ◌==◌, ◌+◌, ◌-◌, ◌≤◌, ◌<◌, suc, false, List, [], ◌∷◌, length, take, drop}
use Rattle.std.proofs.Common.{arith, add-one, All, refl, sym, ◌∙◌, ap, subst}
use Rattle.std.proofs.lemmas.Bool.{cond_both, eqb-false}
use Rattle.std.proofs.lemmas.List.{take_all, length-drop}
use Rattle.std.proofs.lemmas.List.Elements.{All-nil, All-cons}
use Rattle.std.proofs.lemmas.List.Splits.{slice_split-cons_yes, slice_split-cons_no}
use Rattle.std.specs.List.{onto_first}
use Rattle.larch_script.specs.Scripts.{IsCut, IsLastLine, line_length}

longer : (x : ℕ) (text line rest : List ℕ) → (x == 10) ≡ false → IsCut text line rest → IsCut (x ∷ text) (x ∷ line) rest
longer x text line rest e k = record {
  lines = slice_split-cons_no (λ b. b == 10) x text e ∙ ap (onto_first x) k.lines;
  one_line = All-cons (λ b. b ≢ 10) x line (eqb-false x 10 e) k.one_line;
  shorter = omega (arith, k.shorter);
}

cut : (text : List ℕ) → line_length text < length text
    → IsCut text (take (line_length text) text) (drop (suc (line_length text)) text)
cut [] h = absurd (omega arith)
cut (x ∷ xs) h =
    (cond_both {A = ℕ} (x == 10) 0 (suc (line_length xs))
    (λ n. n < length (x ∷ xs) → IsCut (x ∷ xs) (take n (x ∷ xs)) (drop (suc n) (x ∷ xs)))
    (λ e _. record {
      lines = slice_split-cons_yes (λ b. b == 10) x xs e;
      one_line = All-nil (λ b. b ≢ 10);
      shorter = omega arith;
    })
    (λ e k. longer x xs (take (line_length xs) xs) (drop (suc (line_length xs)) xs) e (cut xs (omega (arith, k))))) h

-- a text whose first line ends before its end goes on behind the newline
pub cut_line : (text : List ℕ) (n : ℕ) → n ≡ line_length text → n < length text
    → IsCut text (take n text) (take (length text - (n + 1)) (drop (n + 1) text))
cut_line text n e h =
    let all : take (length text - (n + 1)) (drop (n + 1) text) ≡ drop (n + 1) text =
    take_all (length text - (n + 1)) (drop (n + 1) text) (omega (arith, length-drop (n + 1) text)) in
    let less : line_length text < length text = subst (λ m. m < length text) e h in
    let end : drop (suc (line_length text)) text ≡ drop (n + 1) text = rw (add-one n, e) refl in
    rw all (subst (λ rest. IsCut text (take n text) rest) end
    (subst (λ m. IsCut text (take m text) (drop (suc (line_length text)) text)) (sym e) (cut text less)))

last : (text : List ℕ) → length text ≤ line_length text → IsLastLine text
last [] h = record { lines = refl; one_line = All-nil (λ b. b ≢ 10) }
last (x ∷ xs) h =
    (cond_both {A = ℕ} (x == 10) 0 (suc (line_length xs)) (λ n. length (x ∷ xs) ≤ n → IsLastLine (x ∷ xs))
    (λ _ k. absurd (omega (arith, k)))
    (λ e k. let whole = last xs (omega (arith, k)) in record {
      lines = slice_split-cons_no (λ b. b == 10) x xs e ∙ ap (onto_first x) whole.lines;
      one_line = All-cons (λ b. b ≢ 10) x xs (eqb-false x 10 e) whole.one_line;
    })) h

-- a text whose first line goes to its end is one line
pub last_line : (text : List ℕ) (n : ℕ) → n ≡ line_length text → length text ≤ n → IsLastLine text
last_line text n e h = last text (omega (arith, e))
