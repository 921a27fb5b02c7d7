-- Words of plain bytes: names, lengths and labels.
use Rattle.std.proofs.Common.{◌≡◌, ℕ, ◌≤◌, ◌&&◌, ◌||◌, Bool, true, false, not, ◌==◌, nat_le, nat_lt, List}
use Rattle.std.proofs.Common.{[], ◌∷◌, ◌++◌, length, take, drop, fold, Option, Some, None, cond, refl, sym, subst}
use Rattle.std.proofs.Common.{◌⊎◌, inl, inr, ap₂, ◌∙◌, arith, codes, length-append}
use Rattle.std.specs.Prelude.{option_and_then, option_map}
use Rattle.std.specs.Char.{is_ascii_digit}
use Rattle.std.specs.List.{All, list_all}
use Rattle.std.specs.Str.{bytes_eq}
use Rattle.std.specs.Cmp.Lexicographic.{bytes_decides}
use Rattle.std.proofs.lemmas.Bool.Decides.{nat_tests}
use Rattle.std.proofs.lemmas.List.{take-append-drop}
use Rattle.std.proofs.lemmas.List.Elements.{All-append, All-cons, All-nil}
use Rattle.larch_base.proofs.Bools.{and_left, and_right}
use Rattle.larch_base.proofs.Numbers.{grows}
use Rattle.larch_base.proofs.Options.{some_inj}
use Rattle.larch_base.specs.FileName.{is_stem, is_stem_byte}
use Rattle.larch_base.specs.Label.{behind, label_behind, label_number, or_label, read_label}
use Rattle.larch_base.specs.Number.{is_number, read_number, value_of, with_digit}
use Rattle.larch_base.specs.declared.label.Label.{Label}
use Rattle.larch_base.specs.declared.label.Label.TheVariants.{Assume, Imply, Convert}

-- a byte that stands in a word: no blank and no newline
abbrev pub IsPlain : ℕ → Type 0
IsPlain byte = 33 ≤ byte

abbrev is_plain : ℕ → Bool
is_plain byte = nat_le 33 byte

plain_by_test : (byte : ℕ) → is_plain byte ≡ true → 33 ≤ byte
plain_by_test byte e = grind (arith, nat_tests)

stem_byte_plain : (byte : ℕ) → is_stem_byte byte ≡ true → 33 ≤ byte
stem_byte_plain byte e = grind (arith, nat_tests)

digit_plain : (byte : ℕ) → is_ascii_digit byte ≡ true → 33 ≤ byte
digit_plain byte e = grind (arith, nat_tests)

plain_by : (p : ℕ → Bool) → ((byte : ℕ) → p byte ≡ true → 33 ≤ byte) → (bytes : List ℕ) → list_all p bytes ≡ true
    → All IsPlain bytes
plain_by p each [] e = All-nil IsPlain
plain_by p each (byte ∷ bytes) e =
    All-cons IsPlain byte bytes (each byte (and_left (p byte) (list_all p bytes) e))
    (plain_by p each bytes (and_right (p byte) (list_all p bytes) e))

-- bytes that are seen to be plain
pub plain_word : (bytes : List ℕ) → list_all is_plain bytes ≡ true → All IsPlain bytes
plain_word bytes e = plain_by is_plain plain_by_test bytes e

pub plain_digits : (digits : List ℕ) → list_all is_ascii_digit digits ≡ true → All IsPlain digits
plain_digits digits e = plain_by is_ascii_digit digit_plain digits e

-- a word of plain bytes, of so many at most
abbrev pub IsShortWord : ℕ → List ℕ → Type 0
IsShortWord most word = All IsPlain word × (length word ≤ most)

pub stem_word : (stem : List ℕ) → is_stem stem ≡ true → IsShortWord 64 stem
stem_word stem e =
    let within : (nat_lt 0 (length stem) && nat_le (length stem) 64) ≡ true =
    and_left _ (list_all is_stem_byte stem) e in
    let few : nat_le (length stem) 64 ≡ true = and_right (nat_lt 0 (length stem)) (nat_le (length stem) 64) within in
    (plain_by is_stem_byte stem_byte_plain stem (and_right _ _ e), grind (arith, nat_tests, few))

-- ---- labels

-- what comes of a value comes of some value
some_first : {A B : Type 0} (f : A → Option B) (o : Option A) (y : B) → option_and_then f o ≡ Some y
    → (x : A) × (o ≡ Some x) × (f x ≡ Some y)
some_first f None y e = cc
some_first f (Some x) y e = (x, refl, e)

some_under : {A B : Type 0} (f : A → B) (o : Option A) (y : B) → option_map f o ≡ Some y → (x : A) × (o ≡ Some x)
some_under f None y e = cc
some_under f (Some x) y e = (x, refl)

passes : {A : Type 0} (b : Bool) (x y : A) → cond b (Some x) None ≡ Some y → (b ≡ true) × (x ≡ y)
passes true x y e = (refl, some_inj e)
passes false x y e = cc

behind_is : (beginning word rest : List ℕ) → behind beginning word ≡ Some rest → word ≡ beginning ++ rest
behind_is beginning word rest e =
    let p = passes (nat_le (length beginning) (length word) && bytes_eq (take (length beginning) word) beginning)
    (drop (length beginning) word) rest e in
    sym (take-append-drop (length beginning) word)
    ∙ ap₂ (λ xs ys. xs ++ ys) ((bytes_decides (take (length beginning) word) beginning).0 (and_right _ _ p.0)) p.1

-- the number of seven digits, of which the first isn't 0, is at least a million
abbrev of_seven : (d a b c e f g : ℕ) → ℕ
of_seven d a b c e f g =
    with_digit (with_digit (with_digit (with_digit (with_digit (with_digit (with_digit 0 d) a) b) c) e) f) g

seven_are_many : (d a b c e f g : ℕ) → 49 ≤ d → 1000000 ≤ of_seven d a b c e f g
seven_are_many d a b c e f g h = omega (arith, h)

-- so digits that spell less are at most six
few_digits : (d : ℕ) (ds : List ℕ) → 49 ≤ d → fold with_digit (with_digit 0 d) ds ≤ 999999 → length ds ≤ 5
few_digits d [] h le = omega arith
few_digits d (a ∷ []) h le = omega arith
few_digits d (a ∷ b ∷ []) h le = omega arith
few_digits d (a ∷ b ∷ c ∷ []) h le = omega arith
few_digits d (a ∷ b ∷ c ∷ e ∷ []) h le = omega arith
few_digits d (a ∷ b ∷ c ∷ e ∷ f ∷ []) h le = omega arith
few_digits d (a ∷ b ∷ c ∷ e ∷ f ∷ g ∷ rest) h le =
    let many = seven_are_many d a b c e f g h in
    let more = grows (of_seven d a b c e f g) rest in
    let all : fold with_digit (of_seven d a b c e f g) rest ≤ 999999 = le in
    absurd (omega (arith, many, more, all))

number_length : (digits : List ℕ) → is_number digits ≡ true → value_of digits ≤ 999999 → length digits ≤ 6
number_length [] is le = omega arith
number_length (d ∷ ds) is le =
    by (d == 48) (length ds == 0) refl refl (and_right (list_all is_ascii_digit (d ∷ ds)) _ is)
  where
    by : (zero_first alone : Bool) → (d == 48) ≡ zero_first → (length ds == 0) ≡ alone
        → (not zero_first || alone) ≡ true → length (d ∷ ds) ≤ 6
    by true true p q e = grind (arith, nat_tests, q)
    by true false p q e = cc
    by false alone p q e =
        let digit : is_ascii_digit d ≡ true =
        and_left (is_ascii_digit d) _ (and_left (list_all is_ascii_digit (d ∷ ds)) _ is) in
        let more : 49 ≤ d = grind (arith, nat_tests, p, digit) in
        let few = few_digits d ds more le in omega (arith, few)

digits_plain : (digits : List ℕ) → is_number digits ≡ true → All IsPlain digits
digits_plain [] e = All-nil IsPlain
digits_plain (d ∷ ds) e = plain_digits (d ∷ ds) (and_left (list_all is_ascii_digit (d ∷ ds)) _ e)

number_word : (digits : List ℕ) (n : ℕ) → label_number digits ≡ Some n → IsShortWord 6 digits
number_word digits n e =
    let read = some_first (λ number. cond (nat_lt 0 number) (Some number) None) (read_number 999999 digits) n e in
    let p = passes (is_number digits && nat_le (value_of digits) 999999) (value_of digits) read.0 read.1 in
    let small : nat_le (value_of digits) 999999 ≡ true = and_right (is_number digits) _ p.0 in
    let is = and_left (is_number digits) _ p.0 in
    (digits_plain digits is, number_length digits is (grind (arith, nat_tests, small)))

kind_word : (beginning : List ℕ) (kind : ℕ → Label) (word : List ℕ) (label : Label) → All IsPlain beginning
    → length beginning ≤ 8 → label_behind beginning kind word ≡ Some label → IsShortWord 14 word
kind_word beginning kind word label plain short e =
    let number = some_under kind (option_and_then label_number (behind beginning word)) label e in
    let rest = some_first label_number (behind beginning word) number.0 number.1 in
    let digits = number_word rest.0 number.0 rest.2 in
    let is = behind_is beginning word rest.0 rest.1 in
    let few = digits.1 in
    let long = length-append beginning rest.0 in (
      subst (All IsPlain) (sym is) (All-append IsPlain beginning rest.0 plain digits.0),
      subst (λ w. length w ≤ 14) (sym is) (omega (arith, long, few, short)),
    )

first_or : (one other : Option Label) (label : Label) → or_label one other ≡ Some label
    → (one ≡ Some label) ⊎ (other ≡ Some label)
first_or None other label e = inr e
first_or (Some l) other label e = inl e

-- a label is a short word
pub label_word : (word : List ℕ) (label : Label) → read_label word ≡ Some label → IsShortWord 14 word
label_word word label e = elim (first_or (label_behind (codes "assume.") Assume word) _ label e) [
  | inl is ↦ kind_word (codes "assume.") Assume word label (plain_word (codes "assume.") refl) (omega arith) is
  | inr other ↦ elim (first_or (label_behind (codes "imply.") Imply word) _ label other) [
    | inl is ↦ kind_word (codes "imply.") Imply word label (plain_word (codes "imply.") refl) (omega arith) is
    | inr is ↦ kind_word (codes "convert.") Convert word label (plain_word (codes "convert.") refl) (omega arith) is
  ]
]
