-- What a text of certain bytes lacks.
use Rattle.std.proofs.Common.{◌≡◌, ℕ, ◌==◌, ◌&&◌, ◌||◌, Bool, true, false, List, [], ◌∷◌, ◌++◌, refl, sym, ◌∙◌, ap, ◌⊎◌}
use Rattle.std.proofs.Common.{arith, inl, inr}
use Rattle.std.specs.Char.{is_ascii_alphanumeric, is_ascii_digit}
use Rattle.std.specs.Str.{all_ascii_digits}
use Rattle.std.proofs.lemmas.Bool.{and_parts, and_from, or_cases, both_ways, false≢true}
use Rattle.std.proofs.lemmas.Grind.{common_steps}
use Rattle.larch_certificate.specs.BaseWord.{is_word, goes_on, begins_alphanumeric}
use Rattle.larch_certificate_text.specs.ByteClasses.{passes, Lacks, is_ref_byte, is_word_byte, is_op_byte, is_atom_byte}
use Rattle.larch_certificate_text.specs.ByteClasses.{is_term_byte}

pub or_left : (x y : Bool) → x ≡ true → (x || y) ≡ true
or_left true y e = refl
or_left false y e = absurd (false≢true e)

pub or_right : (x y : Bool) → y ≡ true → (x || y) ≡ true
or_right true y e = refl
or_right false y e = e

pub passes_append : (p : ℕ → Bool) (xs ys : List ℕ) → passes p xs ≡ true → passes p ys ≡ true
    → passes p (xs ++ ys) ≡ true
passes_append p [] ys a b = b
passes_append p (x ∷ xs) ys a b =
    let s = and_parts (p x) (passes p xs) a in
    and_from (p x) (passes p (xs ++ ys)) s.0 (passes_append p xs ys s.1 b)

pub passes_more : (p q : ℕ → Bool) → ((b : ℕ) → p b ≡ true → q b ≡ true) → (xs : List ℕ) → passes p xs ≡ true
    → passes q xs ≡ true
passes_more p q f [] a = refl
passes_more p q f (x ∷ xs) a =
    let s = and_parts (p x) (passes p xs) a in
    and_from (q x) (passes q xs) (f x s.0) (passes_more p q f xs s.1)

-- what is of other bytes lacks this one
pub lacks : (p : ℕ → Bool) (c : ℕ) (xs : List ℕ) → passes p xs ≡ true → p c ≡ false → Lacks c xs
lacks p c [] a n = tt
lacks p c (x ∷ xs) a n =
    let s = and_parts (p x) (passes p xs) a in
    (λ e. both_ways (p c) n (sym (ap p e) ∙ s.0), lacks p c xs s.1 n)

pub digits_pass : (ds : List ℕ) → all_ascii_digits ds ≡ true → passes is_ascii_digit ds ≡ true
digits_pass [] a = refl
digits_pass (x ∷ xs) a =
    let s = and_parts (is_ascii_digit x) (all_ascii_digits xs) a in
    and_from (is_ascii_digit x) (passes is_ascii_digit xs) s.0 (digits_pass xs s.1)

pub rest_passes : (bs : List ℕ) → goes_on bs ≡ true → passes is_word_byte bs ≡ true
rest_passes [] a = refl
rest_passes (b ∷ bs) a =
    let s = and_parts (is_ascii_alphanumeric b || (b == 39) || ((b == 95) && begins_alphanumeric bs)) (goes_on bs) a in
    and_from (is_word_byte b) (passes is_word_byte bs) (grind (arith, common_steps, s.0)) (rest_passes bs s.1)

pub word_passes : (w : List ℕ) → is_word w ≡ true → passes is_word_byte w ≡ true
word_passes [] a = absurd (false≢true a)
word_passes (b ∷ bs) a =
    let s = and_parts (is_ascii_alphanumeric b) (goes_on bs) a in
    and_from (is_word_byte b) (passes is_word_byte bs) (or_left (is_ascii_alphanumeric b) ((b == 39) || (b == 95)) s.0)
    (rest_passes bs s.1)

pub digit_in_word : (b : ℕ) → is_ascii_digit b ≡ true → is_word_byte b ≡ true
digit_in_word b e = grind (arith, common_steps)

pub digit_in_ref : (b : ℕ) → is_ascii_digit b ≡ true → is_ref_byte b ≡ true
digit_in_ref b e = or_left (is_ascii_digit b) (b == 43) e

pub word_in_op : (b : ℕ) → is_word_byte b ≡ true → is_op_byte b ≡ true
word_in_op b e =
    or_left (is_word_byte b) ((b == 43)
    ||
    ((b == 46)
    ||
    ((b == 35)
    || ((b == 64) || ((b == 126) || ((b == 47) || ((b == 92) || ((b == 61) || ((b == 60) || (b == 62)))))))))) e

pub op_in_atom : (b : ℕ) → is_op_byte b ≡ true → is_atom_byte b ≡ true
op_in_atom b e = or_left (is_op_byte b) (b == 58) e

pub atom_in_term : (b : ℕ) → is_atom_byte b ≡ true → is_term_byte b ≡ true
atom_in_term b e = or_left (is_atom_byte b) ((b == 40) || ((b == 41) || (b == 44))) e

ref_in_op_by : (b : ℕ) → (is_ascii_digit b ≡ true) ⊎ ((b == 43) ≡ true) → is_op_byte b ≡ true
ref_in_op_by b (inl e) = word_in_op b (digit_in_word b e)
ref_in_op_by b (inr e) =
    or_right (is_word_byte b) ((b == 43)
    ||
    ((b == 46)
    ||
    ((b == 35)
    || ((b == 64) || ((b == 126) || ((b == 47) || ((b == 92) || ((b == 61) || ((b == 60) || (b == 62))))))))))
    (or_left (b == 43) ((b == 46) ||
    ((b == 35) || ((b == 64) || ((b == 126) || ((b == 47) || ((b == 92) || ((b == 61) || ((b == 60) || (b == 62)))))))))
    e)

pub ref_in_op : (b : ℕ) → is_ref_byte b ≡ true → is_op_byte b ≡ true
ref_in_op b e = ref_in_op_by b (or_cases (is_ascii_digit b) (b == 43) e)
