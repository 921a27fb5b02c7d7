-- Names of files, by stems and endings.
use Rattle.std.proofs.Common.{◌≡◌, refl, sym, ap, ◌∙◌, arith, ℕ, suc, ◌+◌, Bool, true, false, cond, not, ◌||◌, ◌&&◌}
use Rattle.std.proofs.Common.{List, [], ◌∷◌, ◌++◌, length, take, drop}
use Rattle.std.specs.Prelude.{bytes_eq, codes}
use Rattle.std.specs.Cmp.Lexicographic.{bytes_decides}
use Rattle.std.specs.List.{list_all, position_or_len}
use Rattle.std.proofs.lemmas.Bool.Decides.{nat_tests}
use Rattle.std.proofs.Math.Seq.{drop-append-add, take-append_seam}
use Rattle.larch_base.specs.FileName.{ending_of, is_dot, is_file_name, is_script_file, is_stem, is_stem_byte, stem_of}
use Rattle.larch_base.specs.FileName.{is_trait_file}
use Rattle.larch_base.proofs.Bools.{and_both, and_left, and_right}

no_dot : (byte : ℕ) → is_stem_byte byte ≡ true → is_dot byte ≡ false
no_dot byte e = grind (arith, nat_tests)

one_more : (n m : ℕ) → n ≡ m → 1 + n ≡ suc m
one_more n m e = omega (arith, e)

bytes_here : (a : List ℕ) → bytes_eq a a ≡ true
bytes_here a = (bytes_decides a a).1 refl

-- an ending with its dot
module _ (ending : List ℕ) where
  dot_behind : (stem : List ℕ) → list_all is_stem_byte stem ≡ true
      → position_or_len is_dot (stem ++ 46 ∷ ending) ≡ length stem
  dot_behind [] e = refl
  dot_behind (b ∷ stem) e =
      ap (λ t. cond (not t) (1 + position_or_len is_dot (stem ++ 46 ∷ ending)) 0) (no_dot b (and_left _ _ e))
      ∙ one_more _ _ (dot_behind stem (and_right (is_stem_byte b) _ e))

  module _ (stem : List ℕ) (e : is_stem stem ≡ true) where
    its_dot : position_or_len is_dot (stem ++ 46 ∷ ending) ≡ length stem
    its_dot = dot_behind stem (and_right _ (list_all is_stem_byte stem) e)

    its_stem : stem_of (stem ++ 46 ∷ ending) ≡ stem
    its_stem = ap (λ n. take n (stem ++ 46 ∷ ending)) its_dot ∙ take-append_seam stem (46 ∷ ending)

    its_ending : ending_of (stem ++ 46 ∷ ending) ≡ ending
    its_ending = ap (λ n. drop (n + 1) (stem ++ 46 ∷ ending)) its_dot ∙ drop-append-add stem (46 ∷ ending) 1

    named : (kind : List ℕ) → ending ≡ kind
        → (is_stem (stem_of (stem ++ 46 ∷ ending)) && bytes_eq (ending_of (stem ++ 46 ∷ ending)) kind) ≡ true
    named kind same =
        and_both (is_stem (stem_of (stem ++ 46 ∷ ending))) (bytes_eq (ending_of (stem ++ 46 ∷ ending)) kind)
        (ap is_stem its_stem ∙ e) (ap (λ bs. bytes_eq bs kind) (its_ending ∙ same) ∙ bytes_here kind)

or_left : (a b : Bool) → a ≡ true → (a || b) ≡ true
or_left true b e = refl
or_left false b e = absurd (cc)

or_right : (a b : Bool) → b ≡ true → (a || b) ≡ true
or_right true b e = refl
or_right false b e = e

-- the name of a trait file, and that of a script
pub trait_named : (stem : List ℕ) → is_stem stem ≡ true → is_file_name (stem ++ codes ".lsl") ≡ true
trait_named stem e =
    or_left (is_trait_file (stem ++ codes ".lsl")) (is_script_file (stem ++ codes ".lsl"))
    (named (codes "lsl") stem e (codes "lsl") refl)

pub script_named : (stem : List ℕ) → is_stem stem ≡ true → is_file_name (stem ++ codes ".lp") ≡ true
script_named stem e =
    or_right (is_trait_file (stem ++ codes ".lp")) (is_script_file (stem ++ codes ".lp"))
    (named (codes "lp") stem e (codes "lp") refl)
