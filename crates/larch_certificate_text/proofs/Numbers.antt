-- A number has one text.
use Rattle.std.proofs.Common.{◌≡◌, ℕ, ◌+◌, ◌-◌, ◌*◌, ◌/◌, ◌%◌, ◌^◌, ◌<◌, ◌≤◌, ◌==◌, ◌&&◌, nat_lt, cond, Bool, true}
use Rattle.std.proofs.Common.{false, List, [], ◌∷◌, ◌++◌, length, get_or, Option, Some, None, is_some, refl, sym, ◌∙◌}
use Rattle.std.proofs.Common.{ap, arith, rules, inl, inr}
use Rattle.std.specs.Prelude.{decimal}
use Rattle.std.specs.Char.{is_ascii_digit}
use Rattle.std.specs.Str.{all_ascii_digits}
use Rattle.std.proofs.lemmas.Grind.{common_steps}
use Rattle.std.proofs.lemmas.Fmt.{digits_decimal, digits_value-decimal, decimal-digits_value, decimal_by_steps}
use Rattle.std.proofs.lemmas.Bool.{false≢true, cond-false, cases_eq, and_left, and_right, le-ltb, ne_eqb}
use Rattle.std.proofs.lemmas.Option.{cond_some, option_and_then_some, same_Some, none-some}
use Rattle.std.proofs.lemmas.Str.Parse.{IsNumeralModel, numerals_by_fold}
use Rattle.larch_certificate_text.specs.Parts.{IsSmall, with_digit, digits_from, read_number}

abbrev pub read_on : ℕ → List ℕ → ℕ
read_on n [] = n
read_on n (c ∷ cs) = read_on (n * 10 + (c - 48)) cs

pub own : IsNumeralModel (λ ds. all_ascii_digits ds ≡ true) (read_on 0)
own = numerals_by_fold _ (search rules) read_on (search rules)

pub both_true : (a b : Bool) → (a && b) ≡ true → (a ≡ true) × (b ≡ true)
both_true true true e = (refl, refl)
both_true true false e = (refl, e)
both_true false b e = absurd (cc e)

pub eq_true : (a b : ℕ) → (a == b) ≡ true → a ≡ b
eq_true a b e = grind (arith, common_steps)

-- what is something is not what stands for nothing
pub cond_none : {A : Type 0} (b : Bool) (x : Option A) (y : Option A) → cond b None x ≡ y → is_some y ≡ true
    → (b ≡ false) × (x ≡ y)
cond_none true x None e i = absurd (false≢true i)
cond_none true x (Some y) e i = absurd (none-some y e)
cond_none false x y e i = (refl, e)

pub not_padded : (b k : ℕ) → (b ≡ 48 → k ≡ 0) → ((b == 48) && nat_lt 0 k) ≡ false
not_padded b k f =
    elim (cases_eq b 48) [
      | inl e ↦ and_right (b == 48) (nat_lt 0 k) (le-ltb 0 k (omega (arith, f e)))
      | inr n ↦ and_left (b == 48) (nat_lt 0 k) (ne_eqb b 48 n)
    ]

-- what was read is not less than what the digits began with
pub read_on_grows : (n : ℕ) (cs : List ℕ) → n ≤ read_on n cs
read_on_grows n [] = omega arith
read_on_grows n (c ∷ cs) = omega (arith, read_on_grows (n * 10 + (c - 48)) cs)

pub with_digit_some : (v b w : ℕ) → with_digit v b ≡ Some w
    → (is_ascii_digit b ≡ true) × (w ≡ v * 10 + (b - 48)) × (w < 2 ^ 64)
with_digit_some v b w e = let p = cond_some (is_ascii_digit b && nat_lt (v * 10 + (b - 48)) (2 ^ 64)) _ w e in
    grind (arith, common_steps, p)

pub with_digit_again : (v b : ℕ) → is_ascii_digit b ≡ true → v * 10 + (b - 48) < 2 ^ 64
    → with_digit v b ≡ Some (v * 10 + (b - 48))
with_digit_again v b d s = grind (arith, common_steps)

pub digits_from_some : (v : ℕ) (ds : List ℕ) (n : ℕ) → digits_from v ds ≡ Some n → v < 2 ^ 64
    → (all_ascii_digits ds ≡ true) × (read_on v ds ≡ n) × (n < 2 ^ 64)
digits_from_some v [] n e s = (refl, same_Some v n e, rw (← same_Some v n e) s)
digits_from_some v (b ∷ bs) n e s =
    option_and_then_some (λ more. digits_from more bs) (with_digit v b) n e (λ w i r.
    let d = with_digit_some v b w i in
    let k = digits_from_some w bs n r d.2 in
    (grind (arith, common_steps, d.0, k.0), ap (λ x. read_on x bs) (sym d.1) ∙ k.1, k.2))

pub digits_from_again : (v : ℕ) (ds : List ℕ) → all_ascii_digits ds ≡ true → read_on v ds < 2 ^ 64
    → digits_from v ds ≡ Some (read_on v ds)
digits_from_again v [] d s = refl
digits_from_again v (b ∷ bs) d s =
    let p : (is_ascii_digit b ≡ true) × (all_ascii_digits bs ≡ true) = both_true _ _ d in
    let g = read_on_grows (v * 10 + (b - 48)) bs in
    rw (with_digit_again v b p.0 (omega arith)) (digits_from_again (v * 10 + (b - 48)) bs p.1 s)

one_digit_more : (k : ℕ) (ds : List ℕ) (d : ℕ) → 10 ≤ k
    → (0 < length ds) × (get_or ds 0 0 ≡ 48 → (k / 10 ≡ 0) × (length ds ≡ 1))
    → (0 < length (ds ++ (d ∷ []))) × (get_or (ds ++ (d ∷ [])) 0 0 ≡ 48 → (k ≡ 0) × (length (ds ++ (d ∷ [])) ≡ 1))
one_digit_more k [] d h p = absurd (omega (arith, p.0))
one_digit_more k (c ∷ cs) d h p = (omega arith, λ e. let z = (p.1 e).0 in absurd (omega arith))

-- a number begins with a zero only if that is all
pub no_leading_zero : (n : ℕ) → n < 2 ^ 64
    → (0 < length (decimal n)) × (get_or (decimal n) 0 0 ≡ 48 → (n ≡ 0) × (length (decimal n) ≡ 1))
no_leading_zero n s =
    decimal_by_steps (λ n ds. (0 < length ds) × (get_or ds 0 0 ≡ 48 → (n ≡ 0) × (length ds ≡ 1)))
    (λ k h. (omega arith, λ e. (omega arith, refl)))
    (λ k ds h p. one_digit_more k ds (48 + k % 10) h p) n s

pub number_read : (ds : List ℕ) (n : ℕ) → read_number ds ≡ Some n → (ds ≡ decimal n) × IsSmall n
number_read [] n e = absurd (none-some n e)
number_read (b ∷ bs) n e =
    let z = cond_none ((b == 48) && nat_lt 0 (length bs)) (digits_from 0 (b ∷ bs)) (Some n) e refl in
    let r = digits_from_some 0 (b ∷ bs) n (z.1) (omega arith) in
    let alone : get_or (b ∷ bs) 0 0 ≡ 48 → length (b ∷ bs) ≡ 1 = λ i. grind (arith, common_steps, z.0) in
    (sym (ap decimal (sym r.1) ∙ decimal-digits_value own (b ∷ bs) r.0 (omega arith) alone (rw r.1 r.2)), r.2)

number_of : (ds : List ℕ) (n : ℕ) → 0 < length ds → all_ascii_digits ds ≡ true → read_on 0 ds ≡ n → n < 2 ^ 64
    → (get_or ds 0 0 ≡ 48 → (n ≡ 0) × (length ds ≡ 1)) → read_number ds ≡ Some n
number_of [] n l d v s z = absurd (omega (arith, l))
number_of (b ∷ bs) n l d v s z =
    let t : ((b == 48) && nat_lt 0 (length bs)) ≡ false = not_padded b (length bs) (λ e. omega (arith, (z e).1)) in
    cond-false _ _ _ t ∙ digits_from_again 0 (b ∷ bs) d (rw v s) ∙ ap Some v

pub number_again : (n : ℕ) → IsSmall n → read_number (decimal n) ≡ Some n
number_again n s =
    let z = no_leading_zero n s in
    number_of (decimal n) n z.0 (digits_decimal own n s) (digits_value-decimal own n s) s z.1
