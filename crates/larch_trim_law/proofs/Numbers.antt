-- New numbers: how many marks there are up to a number.
use Rattle.std.proofs.Common.{◌≡◌, ℕ, zero, suc, ◌+◌, ◌-◌, ◌<◌, ◌≤◌, Bool, true, false, cond, inl, inr, List, [], ◌∷◌}
use Rattle.std.proofs.Common.{length, take, refl, sym, ◌∙◌, ap, subst, arith}
use Rattle.std.proofs.lemmas.List.Recursion.{is_sum_by}
use Rattle.larch_trim_law.proofs.Marks.{mark_at, marked_suc, count_marks, below_or_not}
use Rattle.larch_trim_meaning.specs.Reached.{is_marked}
use Rattle.larch_trim_meaning.specs.Trimmed.{new_number}

-- how many marks there are up to a number, by recursion
abbrev pub ranked : List Bool → ℕ → ℕ
ranked [] n = 0
ranked (m ∷ ms) zero = 0
ranked (m ∷ ms) (suc n) = cond m 1 0 + ranked ms n

taken : (ms : List Bool) (n : ℕ) → count_marks (take n ms) ≡ ranked ms n
taken [] zero = refl
taken [] (suc n) = refl
taken (m ∷ ms) zero = refl
taken (m ∷ ms) (suc n) = ap (λ k. cond m 1 0 + k) (taken ms n)

pub new_is : (ms : List Bool) (n : ℕ) → new_number ms n ≡ ranked ms n
new_is ms n = sym (is_sum_by count_marks (λ m. cond m 1 0) refl (λ _ _. refl) (take n ms)) ∙ taken ms n

ranked_next : (ms : List Bool) (i : ℕ) → ranked ms (suc i) ≡ ranked ms i + cond (mark_at ms i) 1 0
ranked_next [] i = refl
ranked_next (m ∷ ms) zero = first m ms
  where
    first : (m : Bool) (ms : List Bool) → cond m 1 0 + ranked ms 0 ≡ 0 + cond m 1 0
    first m [] = omega arith
    first m (n ∷ ns) = omega arith
ranked_next (m ∷ ms) (suc i) = let e = ranked_next ms i in omega (arith, e)

pub ranked_later : (ms : List Bool) (a k : ℕ) → ranked ms a ≤ ranked ms (k + a)
ranked_later ms a zero = let e : 0 + a ≡ a = omega arith in subst (λ n. ranked ms a ≤ ranked ms n) (sym e) (omega arith)
ranked_later ms a (suc k) =
    let e : suc (k + a) ≡ suc k + a = omega arith in
    let one = ranked_next ms (k + a) in
    let rest = ranked_later ms a k in
    subst (λ n. ranked ms a ≤ ranked ms n) e (omega (arith, one, rest))

ranked_all : (ms : List Bool) (n : ℕ) → ranked ms n ≤ count_marks ms
ranked_all [] n = omega arith
ranked_all (m ∷ ms) zero = omega arith
ranked_all (m ∷ ms) (suc n) = let le = ranked_all ms n in omega (arith, le)

-- a number with a mark gets the next one; without a mark it has that of the number before it
pub new_marked : (ms : List Bool) (i : ℕ) → is_marked ms (suc i) ≡ true
    → new_number ms (suc i) ≡ suc (new_number ms i)
new_marked ms i e =
    let a = new_is ms (suc i) in
    let b = new_is ms i in
    let c = ranked_next ms i ∙ ap (λ m. ranked ms i + cond m 1 0) (sym (marked_suc ms i) ∙ e) in
    omega (arith, a, b, c)

pub new_unmarked : (ms : List Bool) (i : ℕ) → is_marked ms (suc i) ≡ false → new_number ms (suc i) ≡ new_number ms i
new_unmarked ms i e =
    let a = new_is ms (suc i) in
    let b = new_is ms i in
    let c = ranked_next ms i ∙ ap (λ m. ranked ms i + cond m 1 0) (sym (marked_suc ms i) ∙ e) in
    omega (arith, a, b, c)

pub new_nought : (ms : List Bool) → new_number ms 0 ≡ 0
new_nought [] = refl
new_nought (m ∷ ms) = new_is (m ∷ ms) 0

pub new_fits : (ms : List Bool) (n : ℕ) → new_number ms n ≤ count_marks ms
new_fits ms n = let a = new_is ms n in let b = ranked_all ms n in omega (arith, a, b)

ranked_whole : (ms : List Bool) → ranked ms (length ms) ≡ count_marks ms
ranked_whole [] = refl
ranked_whole (m ∷ ms) = ap (λ n. cond m 1 0 + n) (ranked_whole ms)

pub new_all : (ms : List Bool) → new_number ms (length ms) ≡ count_marks ms
new_all ms = new_is ms (length ms) ∙ ranked_whole ms

-- new numbers grow
pub new_later : (ms : List Bool) (a b : ℕ) → a ≤ b → new_number ms a ≤ new_number ms b
new_later ms a b le =
    let same : (b - a) + a ≡ b = omega (arith, le) in
    let c = ranked_later ms a (b - a) in
    let d = ap (ranked ms) same in
    let e = new_is ms a in
    let f = new_is ms b in
    omega (arith, c, d, e, f)

new_below : (ms : List Bool) (a b : ℕ) → a < b → is_marked ms b ≡ true → new_number ms a < new_number ms b
new_below ms a zero lt e = absurd (omega (arith, lt))
new_below ms a (suc b) lt e =
    let c = new_marked ms b e in let d = new_later ms a b (omega (arith, lt)) in omega (arith, c, d)

new_apart : (ms : List Bool) (a b : ℕ) → is_marked ms a ≡ true → is_marked ms b ≡ true
    → new_number ms a ≡ new_number ms b → a ≡ b
new_apart ms a b p q e =
    elim (below_or_not a b) [
      | inl lt ↦ let c = new_below ms a b lt q in absurd (omega (arith, c, e))
      | inr le ↦ elim (below_or_not b a) [
        | inl lt ↦ let c = new_below ms b a lt p in absurd (omega (arith, c, e))
        | inr ge ↦ omega (arith, le, ge)
      ]
    ]

-- ---- new numbers for all numbers, of which no two become one

abbrev pub place : List Bool → ℕ → ℕ
place ms n = cond (is_marked ms n) (new_number ms n) (suc (count_marks ms + n))

pub place_marked : (ms : List Bool) (n : ℕ) → is_marked ms n ≡ true → place ms n ≡ new_number ms n
place_marked ms n e = ap (λ b. cond b (new_number ms n) (suc (count_marks ms + n))) e

place_unmarked : (ms : List Bool) (n : ℕ) → is_marked ms n ≡ false → place ms n ≡ suc (count_marks ms + n)
place_unmarked ms n e = ap (λ b. cond b (new_number ms n) (suc (count_marks ms + n))) e

pub place_apart : (ms : List Bool) (a b : ℕ) → place ms a ≡ place ms b → a ≡ b
place_apart ms a b e = split (is_marked ms a) refl (is_marked ms b) refl
  where
    split : (p : Bool) → is_marked ms a ≡ p → (q : Bool) → is_marked ms b ≡ q → a ≡ b
    split true p true q = new_apart ms a b p q (sym (place_marked ms a p) ∙ e ∙ place_marked ms b q)
    split true p false q =
        let c = new_fits ms a in
        let d = sym (place_marked ms a p) ∙ e ∙ place_unmarked ms b q in
        absurd (omega (arith, c, d))
    split false p true q =
        let c = new_fits ms b in
        let d = sym (place_unmarked ms a p) ∙ e ∙ place_marked ms b q in
        absurd (omega (arith, c, d))
    split false p false q =
        let d = sym (place_unmarked ms a p) ∙ e ∙ place_unmarked ms b q in omega (arith, d)
