-- The name of a line has one text.
use Rattle.std.proofs.Common.{◌≡◌, ℕ, ◌+◌, ◌-◌, ◌^◌, ◌<◌, ◌==◌, ◌&&◌, nat_lt, nat_le, cond, Bool, true, false, List, []}
use Rattle.std.proofs.Common.{◌∷◌, length, Some, None, refl, sym, ◌∙◌, ap, arith, inl, inr}
use Rattle.std.specs.Prelude.{decimal, option_and_then}
use Rattle.std.specs.Char.{is_ascii_digit}
use Rattle.std.specs.Str.{all_ascii_digits}
use Rattle.std.proofs.lemmas.Grind.{common_steps}
use Rattle.std.proofs.lemmas.Fmt.{digits_decimal}
use Rattle.std.proofs.lemmas.Bool.{cond-false, cond-true, and_parts, and_from, cases_lt, le-leb, lt-leb, lt-ltb}
use Rattle.std.proofs.lemmas.Bool.{ltb-true, leb-true, eqb-true}
use Rattle.std.proofs.lemmas.Option.{cond_some, option_and_then_some, none-some}
use Rattle.larch_certificate_text.specs.ByteClasses.{passes, is_ref_byte}
use Rattle.larch_certificate_text.specs.Parts.{IsSmall, read_number, ref_by, read_ref_by, read_distance, ahead, behind}
use Rattle.larch_certificate_text.proofs.Bytes.{digits_pass, passes_more, digit_in_ref}
use Rattle.larch_certificate_text.proofs.Numbers.{own, number_again, number_read, no_leading_zero}

distance_plain : (n : ℕ) (ds : List ℕ) → 0 < length ds → all_ascii_digits ds ≡ true
    → read_distance n ds ≡ option_and_then (behind n) (read_number ds)
distance_plain n [] l d = absurd (omega (arith, l))
distance_plain n (b ∷ bs) l d = cond-false (b == 43) _ _ (grind (arith, common_steps))

pub ref_by_again : (r : Bool) (n m : ℕ) → IsSmall n → IsSmall m → read_ref_by r n (ref_by r n m) ≡ Some m
ref_by_again false n m k s = number_again m s
ref_by_again true n m k s =
    elim (cases_lt n m) [
      | inl l ↦
          rw (cond-false (nat_le m n) (decimal (n - m)) (43 ∷ decimal (m - n)) (lt-leb m n l))
          (rw (number_again (m - n) (omega arith))
          (cond-true (nat_lt 0 (m - n) && nat_lt (n + (m - n)) (2 ^ 64)) (Some (n + (m - n))) None
          (and_from (nat_lt 0 (m - n)) (nat_lt (n + (m - n)) (2 ^ 64)) (lt-ltb 0 (m - n) (omega arith))
          (lt-ltb (n + (m - n)) (2 ^ 64) (omega arith))) ∙ ap Some (omega arith)))
      | inr l ↦
          rw (cond-true (nat_le m n) (decimal (n - m)) (43 ∷ decimal (m - n)) (le-leb m n l))
          (distance_plain n (decimal (n - m)) (no_leading_zero (n - m) (omega arith)).0
          (digits_decimal own (n - m) (omega arith))
          ∙ rw (number_again (n - m) (omega arith))
          (cond-true (nat_le (n - m) n) (Some (n - (n - m))) None (le-leb (n - m) n (omega arith))
          ∙ ap Some (omega arith)))
    ]

distance_read : (n b : ℕ) (bs : List ℕ) (m : ℕ) → IsSmall n → (t : Bool) → (b == 43) ≡ t
    → cond t (option_and_then (ahead n) (read_number bs)) (option_and_then (behind n) (read_number (b ∷ bs))) ≡ Some m
    → (b ∷ bs ≡ ref_by true n m) × IsSmall m
distance_read n b bs m k true i e =
    option_and_then_some (ahead n) (read_number bs) m e (λ d p q.
    let r = number_read bs d p in
    let w = cond_some (nat_lt 0 d && nat_lt (n + d) (2 ^ 64)) (n + d) m q in
    let a = and_parts (nat_lt 0 d) (nat_lt (n + d) (2 ^ 64)) w.0 in
    let x = ltb-true 0 d a.0 in
    let y = ltb-true (n + d) (2 ^ 64) a.1 in
    let o : m - n ≡ d = omega (arith, w.1) in (
      rw (cond-false (nat_le m n) (decimal (n - m)) (43 ∷ decimal (m - n)) (lt-leb m n (omega (arith, w.1))))
          (cc (eqb-true b 43 i, r.0, o)),
      omega (arith, w.1),
    ))
distance_read n b bs m k false i e =
    option_and_then_some (behind n) (read_number (b ∷ bs)) m e (λ d p q.
    let r = number_read (b ∷ bs) d p in
    let w = cond_some (nat_le d n) (n - d) m q in
    let x = leb-true d n w.0 in
    let o : n - m ≡ d = omega (arith, w.1) in (
      rw (cond-true (nat_le m n) (decimal (n - m)) (43 ∷ decimal (m - n)) (le-leb m n (omega (arith, w.1))))
          (r.0 ∙ ap decimal (sym o)),
      omega (arith, w.1),
    ))

pub ref_by_read : (r : Bool) (n : ℕ) (text : List ℕ) (m : ℕ) → IsSmall n → read_ref_by r n text ≡ Some m
    → (text ≡ ref_by r n m) × IsSmall m
ref_by_read false n text m k e = number_read text m e
ref_by_read true n [] m k e = absurd (none-some m e)
ref_by_read true n (b ∷ bs) m k e = distance_read n b bs m k (b == 43) refl e

pub ref_passes : (r : Bool) (n m : ℕ) → IsSmall n → IsSmall m → passes is_ref_byte (ref_by r n m) ≡ true
ref_passes false n m k s =
    passes_more is_ascii_digit is_ref_byte digit_in_ref (decimal m) (digits_pass (decimal m) (digits_decimal own m s))
ref_passes true n m k s =
    elim (cases_lt n m) [
      | inl l ↦
          rw (cond-false (nat_le m n) (decimal (n - m)) (43 ∷ decimal (m - n)) (lt-leb m n l))
          (passes_more is_ascii_digit is_ref_byte digit_in_ref (decimal (m - n))
          (digits_pass (decimal (m - n)) (digits_decimal own (m - n) (omega arith))))
      | inr l ↦
          rw (cond-true (nat_le m n) (decimal (n - m)) (43 ∷ decimal (m - n)) (le-leb m n l))
          (passes_more is_ascii_digit is_ref_byte digit_in_ref (decimal (n - m))
          (digits_pass (decimal (n - m)) (digits_decimal own (n - m) (omega arith))))
    ]
