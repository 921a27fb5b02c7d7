-- Writing of a list goes on by one item.
use Rattle.std.proofs.Common.{◌≡◌, ℕ, ◌-◌, ◌≤◌, List, [], ◌∷◌, ◌++◌, length, take, drop, get_or, refl, sym, ◌∙◌, ap}
use Rattle.std.proofs.Common.{arith, append_assoc, append-nil, map}
use Rattle.std.proofs.lemmas.List.{take_rest}
use Rattle.larch_certificate_text.specs.ListText.{list_text}

-- the text of further items
abbrev pub tail_text : ℕ → List (List ℕ) → List ℕ
tail_text c [] = []
tail_text c (x ∷ xs) = c ∷ (x ++ tail_text c xs)

pub listed_tail : (c : ℕ) (x : List ℕ) (xs : List (List ℕ)) → list_text c (x ∷ xs) ≡ x ++ tail_text c xs
listed_tail c x [] = sym (append-nil x)
listed_tail c x (y ∷ ys) = ap (λ z. x ++ (c ∷ z)) (listed_tail c y ys)

-- the first item of a list is written
pub first_written : {A : Type 0} (s : A → List ℕ) (c : ℕ) (xs : List A) (x : A) (before : List ℕ) → 1 ≤ length xs
    → x ≡ get_or xs 0 x → (before ++ s x) ++ tail_text c (map s (take (length xs - 1) (drop 1 xs)))
    ≡ before ++ list_text c (map s xs)
first_written s c [] x before l e = absurd (omega arith)
first_written s c (y ∷ ys) x before l e =
    append_assoc before (s x) (tail_text c (map s (take (length (y ∷ ys) - 1) (drop 1 (y ∷ ys)))))
    ∙ ap (λ z. before ++ (s z ++ tail_text c (map s (take (length (y ∷ ys) - 1) (drop 1 (y ∷ ys)))))) e
    ∙ ap (λ z. before ++ (s y ++ tail_text c (map s z))) (take_rest (y ∷ ys) 1)
    ∙ ap (λ z. before ++ z) (sym (listed_tail c (s y) (map s ys)))

-- the first number of a list is written
pub first_number_written : (s : ℕ → List ℕ) (c : ℕ) (xs : List ℕ) (before : List ℕ) → 1 ≤ length xs
    → (before ++ s (get_or xs 0 0)) ++ tail_text c (map s (take (length xs - 1) (drop 1 xs)))
    ≡ before ++ list_text c (map s xs)
first_number_written s c [] before l = absurd (omega arith)
first_number_written s c (y ∷ ys) before l = first_written s c (y ∷ ys) y before l refl
