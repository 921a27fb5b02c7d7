-- Names of files, by stems and endings; the stems of traits.
use Rattle.std.proofs.Common.{◌≡◌, refl, ap, ◌∙◌, arith, ℕ, suc, ◌+◌, Bool, true, false, cond, not, ◌||◌, ◌&&◌}
use Rattle.std.proofs.Common.{List, [], ◌∷◌, ◌++◌, length, take, drop}
use Rattle.std.specs.Prelude.{bytes_eq, codes}
use Rattle.std.specs.Cmp.Lexicographic.{bytes_decides}
use Rattle.std.specs.List.{list_all, position_or_len}
use Rattle.std.proofs.lemmas.Bool.Decides.{nat_tests}
use Rattle.std.proofs.Math.Seq.{drop-append-add, take-append_seam}
use Rattle.larch_base.specs.FileName.{ending_of, is_dot, is_file_name, is_script_file, is_stem, is_stem_byte, stem_of}
use Rattle.larch_base.specs.FileName.{is_trait_file}
use Rattle.larch_base.proofs.Bools.{and_both, and_left, and_right}
use Rattle.std.proofs.Common.{◌<◌, ◌≤◌, ◌%◌, ◌^◌, decimal, nat_lt, nat_le}
use Rattle.std.proofs.lemmas.Fmt.{decimal_by_steps}
use Rattle.larch_generate.specs.Generator.{trait_stem}
use Rattle.larch_generate.proofs.Lengths.{stem_length}

no_dot : (byte : ℕ) → is_stem_byte byte ≡ true → is_dot byte ≡ false
no_dot byte e = grind (arith, nat_tests)

one_more : (n m : ℕ) → n ≡ m → 1 + n ≡ suc m
one_more n m e = omega (arith, e)

bytes_here : (a : List ℕ) → bytes_eq a a ≡ true
bytes_here a = (bytes_decides a a).1 refl

-- an ending with its dot
module _ (ending : List ℕ) where
  dot_behind : (stem : List ℕ) → list_all is_stem_byte stem ≡ true
      → position_or_len is_dot (stem ++ 46 ∷ ending) ≡ length stem
  dot_behind [] e = refl
  dot_behind (b ∷ stem) e =
      ap (λ t. cond (not t) (1 + position_or_len is_dot (stem ++ 46 ∷ ending)) 0) (no_dot b (and_left _ _ e))
      ∙ one_more _ _ (dot_behind stem (and_right (is_stem_byte b) _ e))

  module _ (stem : List ℕ) (e : is_stem stem ≡ true) where
    its_dot : position_or_len is_dot (stem ++ 46 ∷ ending) ≡ length stem
    its_dot = dot_behind stem (and_right _ (list_all is_stem_byte stem) e)

    its_stem : stem_of (stem ++ 46 ∷ ending) ≡ stem
    its_stem = ap (λ n. take n (stem ++ 46 ∷ ending)) its_dot ∙ take-append_seam stem (46 ∷ ending)

    its_ending : ending_of (stem ++ 46 ∷ ending) ≡ ending
    its_ending = ap (λ n. drop (n + 1) (stem ++ 46 ∷ ending)) its_dot ∙ drop-append-add stem (46 ∷ ending) 1

    named : (kind : List ℕ) → ending ≡ kind
        → (is_stem (stem_of (stem ++ 46 ∷ ending)) && bytes_eq (ending_of (stem ++ 46 ∷ ending)) kind) ≡ true
    named kind same =
        and_both (is_stem (stem_of (stem ++ 46 ∷ ending))) (bytes_eq (ending_of (stem ++ 46 ∷ ending)) kind)
        (ap is_stem its_stem ∙ e) (ap (λ bs. bytes_eq bs kind) (its_ending ∙ same) ∙ bytes_here kind)

or_left : (a b : Bool) → a ≡ true → (a || b) ≡ true
or_left true b e = refl
or_left false b e = absurd (cc)

or_right : (a b : Bool) → b ≡ true → (a || b) ≡ true
or_right true b e = refl
or_right false b e = e

-- the name of a trait file, and that of a script
pub trait_named : (stem : List ℕ) → is_stem stem ≡ true → is_file_name (stem ++ codes ".lsl") ≡ true
trait_named stem e =
    or_left (is_trait_file (stem ++ codes ".lsl")) (is_script_file (stem ++ codes ".lsl"))
    (named (codes "lsl") stem e (codes "lsl") refl)

pub script_named : (stem : List ℕ) → is_stem stem ≡ true → is_file_name (stem ++ codes ".lp") ≡ true
script_named stem e =
    or_right (is_trait_file (stem ++ codes ".lp")) (is_script_file (stem ++ codes ".lp"))
    (named (codes "lp") stem e (codes "lp") refl)

-- ---- the stems of traits

all_behind : (xs ys : List ℕ) → list_all is_stem_byte xs ≡ true → list_all is_stem_byte ys ≡ true
    → list_all is_stem_byte (xs ++ ys) ≡ true
all_behind [] ys p q = q
all_behind (x ∷ xs) ys p q =
    and_both (is_stem_byte x) (list_all is_stem_byte (xs ++ ys)) (and_left _ _ p)
    (all_behind xs ys (and_right (is_stem_byte x) _ p) q)

digit_stands : (n : ℕ) → n < 10 → is_stem_byte (48 + n) ≡ true
digit_stands n lt = grind (arith, nat_tests, lt)

abbrev Stands : ℕ → List ℕ → Type 0
Stands n ds = list_all is_stem_byte ds ≡ true

one_digit : (n : ℕ) → n < 10 → Stands n ((48 + n) ∷ [])
one_digit n lt = and_both (is_stem_byte (48 + n)) true (digit_stands n lt) refl

last_digit : (n : ℕ) → n % 10 < 10
last_digit n = omega arith

number_stands : (n : ℕ) → n < 2 ^ 64 → list_all is_stem_byte (decimal n) ≡ true
number_stands n small =
    decimal_by_steps Stands one_digit
    (λ m ds le h. all_behind ds ((48 + m % 10) ∷ []) h (one_digit (m % 10) (last_digit m))) n small

fits : (n : ℕ) → n ≤ 11 → nat_le n 64 ≡ true
fits n le = grind (arith, nat_tests, le)

pub stem_is : (place : ℕ) → place < 2 ^ 32 → is_stem (trait_stem place) ≡ true
stem_is place small =
    and_both (nat_lt 0 (length (trait_stem place)) && nat_le (length (trait_stem place)) 64)
    (list_all is_stem_byte (trait_stem place))
    (and_both (nat_lt 0 (length (trait_stem place))) (nat_le (length (trait_stem place)) 64) (grind (arith, nat_tests))
    (fits (length (trait_stem place)) (stem_length place small)))
    (number_stands place (omega (arith, small)))
