-- How long the text of a trait is.
use Rattle.std.proofs.Common.{◌≡◌, refl, arith, ℕ, zero, suc, ◌+◌, ◌*◌, ◌<◌, ◌≤◌, ◌^◌, [], ◌∷◌, ◌++◌}
use Rattle.std.proofs.Common.{codes, length}
use Rattle.std.proofs.lemmas.Fmt.{length-decimal-le}
use Rattle.std.proofs.lemmas.List.{length-append}
use Rattle.larch_base.specs.declared.limits.TheConstants.{MAX_FILE_BYTES}
use Rattle.larch_generate.specs.Generator.{closings, common_text, openings, tower, trait_stem, trait_text}

openings_length : (n : ℕ) → length (openings n) ≡ 2 * n
openings_length zero = refl
openings_length (suc n) = let l = openings_length n in omega (arith, l)

closings_length : (n : ℕ) → length (closings n) ≡ n
closings_length zero = refl
closings_length (suc n) = let l = closings_length n in omega (arith, l)

tower_length : (n : ℕ) (byte : ℕ) → length (tower n (byte ∷ [])) ≡ 3 * n + 1
tower_length n byte =
    let a = length-append (openings n) (byte ∷ closings n) in
    let b = openings_length n in
    let c = closings_length n in
    omega (arith, a, b, c)

common_length : length common_text ≤ 1000
common_length = omega arith

pub stem_length : (place : ℕ) → place < 2 ^ 32 → length (trait_stem place) ≤ 11
stem_length place small =
    let d = length-decimal-le 10 place (omega arith) (omega (arith, small)) (omega (arith, small)) in omega (arith, d)

pub trait_short : (place height : ℕ) → place < 2 ^ 32 → height < 8 → length (trait_text place height) ≤ MAX_FILE_BYTES
trait_short place height small low =
    let one = tower height (codes "0") in
    let two = tower height (codes "x") in
    let stem = stem_length place small in
    let common = common_length in
    let a = length-append (trait_stem place) (common_text ++ (one ++ (codes " == " ++ (two ++ codes "\n")))) in
    let b = length-append common_text (one ++ (codes " == " ++ (two ++ codes "\n"))) in
    let c = length-append one (codes " == " ++ (two ++ codes "\n")) in
    let d = length-append two (codes "\n") in
    let p = tower_length height 48 in
    let q = tower_length height 120 in
    omega (arith, stem, common, a, b, c, d, p, q, low)
