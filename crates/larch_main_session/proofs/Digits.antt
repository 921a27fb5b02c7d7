-- Numbers that digits spell.
use Rattle.std.proofs.Common.{◌≡◌, ℕ, suc, zero, ◌+◌, ◌-◌, ◌*◌, ◌^◌, ◌<◌, ◌≤◌, true, List, [], ◌∷◌, length, get_or}
use Rattle.std.proofs.Common.{take, ap, ◌∙◌, arith}
use Rattle.std.specs.Char.{is_ascii_digit}
use Rattle.std.proofs.lemmas.List.{take_more}
use Rattle.std.proofs.lemmas.List.Sums.{fold_push}
use Rattle.std.proofs.lemmas.Bool.Decides.{nat_tests}
use Rattle.std.proofs.Math.Nat.{pow-le-pow_right, pow-suc}
use Rattle.std.proofs.Math.Numerals.{add-one}
use Rattle.larch_base.proofs.Bools.{and_left, and_right}
use Rattle.larch_main_session.specs.Command.{are_digits, number_of_digits}

-- a digit's byte
digit_range : (d : ℕ) → is_ascii_digit d ≡ true → (48 ≤ d) × (d ≤ 57)
digit_range d h = grind (arith, nat_tests)

-- each of them is a digit
pub digit_at : (digits : List ℕ) (i : ℕ) → are_digits digits ≡ true → i < length digits
    → (48 ≤ get_or digits i 0) × (get_or digits i 0 ≤ 57)
digit_at [] i all h = absurd (omega arith)
digit_at (d ∷ ds) zero all h = digit_range d (and_left _ _ all)
digit_at (d ∷ ds) (suc i) all h = digit_at ds i (and_right (is_ascii_digit d) _ all) (omega arith)

-- one digit more
pub number_more : (digits : List ℕ) (i : ℕ) → i < length digits
    → number_of_digits (take (i + 1) digits) ≡ 10 * number_of_digits (take i digits) + (get_or digits i 0 - 48)
number_more digits i h =
    ap number_of_digits (take_more digits i 0 h)
    ∙ fold_push (λ number digit. 10 * number + (digit - 48)) 0 (take i digits) (get_or digits i 0)

-- seven digits spell less than ten million
pub few_digits : (n i : ℕ) → n < 10 ^ i → i ≤ 7 → n < 10000000
few_digits n i h le = let p : 10 ^ i ≤ 10 ^ 7 = pow-le-pow_right (omega arith) le in omega arith

pub one_more : (n i d : ℕ) → n < 10 ^ i → d ≤ 9 → 10 * n + d < 10 ^ (i + 1)
one_more n i d h le = rw (add-one, pow-suc) (omega arith)
