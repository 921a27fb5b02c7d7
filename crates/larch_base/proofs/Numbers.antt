-- Numbers that digits spell.
use Rattle.std.proofs.Common.{◌≡◌, ℕ, ◌+◌, ◌*◌, ◌-◌, ◌<◌, ◌≤◌, Bool, true, false, cond, nat_le, List, [], ◌∷◌, fold}
use Rattle.std.proofs.Common.{drop, Option, Some, None, refl, sym, subst, ap, ◌∙◌, arith}
use Rattle.std.proofs.lemmas.Bool.Decides.{nat_tests}
use Rattle.larch_base.specs.Number.{with_digit}

-- further digits make no number smaller
pub grows : (number : ℕ) (digits : List ℕ) → number ≤ fold with_digit number digits
grows number [] = omega arith
grows number (digit ∷ digits) = let more = grows (with_digit number digit) digits in omega (arith, more)

over_by : (b : Bool) (a most : ℕ) (result : Option ℕ) → nat_le a most ≡ b → result ≡ cond b (Some a) None
    → result ≡ None → most < a
over_by true a most result e is none = cc
over_by false a most result e is none = grind (arith, nat_tests, e)

-- where the digits so far spell too large a number, so do all
pub too_large : (number digit most value : ℕ) (result : Option ℕ) (digits : List ℕ) (i : ℕ)
    → result ≡ cond (nat_le (with_digit number digit) most) (Some (with_digit number digit)) None → result ≡ None
    → drop i digits ≡ digit ∷ drop (i + 1) digits → fold with_digit number (drop i digits) ≡ value
    → None ≡ cond (nat_le value most) (Some value) None
too_large number digit most value result digits i is none next spells =
    let more : ℕ = with_digit number digit in
    let large : most < more = over_by (nat_le more most) more most result refl is none in
    let whole : fold with_digit more (drop (i + 1) digits) ≡ value =
    sym (ap (λ ds. fold with_digit number ds) next) ∙ spells in
    let at_least : more ≤ value = subst (λ v. more ≤ v) whole (grows more (drop (i + 1) digits)) in
    let no : nat_le value most ≡ false = grind (arith, nat_tests, large, at_least) in
    sym (ap (λ b. cond b (Some value) None) no)
