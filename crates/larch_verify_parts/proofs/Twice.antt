-- Numbers are looked at from the last to the first.
use Rattle.std.proofs.Common.{◌≡◌, ℕ, zero, suc, ◌+◌, ◌-◌, ◌<◌, Bool, true, false, if◌then◌else◌, List, [], ◌∷◌, length}
use Rattle.std.proofs.Common.{drop, get_or, refl, sym, ◌∙◌, ap, arith}
use Rattle.std.specs.Option.{is_some}
use Rattle.std.proofs.lemmas.List.{drop_more}
use Rattle.larch_verify_parts.specs.Apart.{seen_in, all_apart}

-- one number more
pub next_from_behind : (ns : List ℕ) (i d : ℕ) → i < length ns
    → drop (length ns - (i + 1)) ns ≡ get_or ns (length ns - 1 - i) d ∷ drop (length ns - i) ns
next_from_behind ns i d l =
    let here : length ns - (i + 1) ≡ length ns - 1 - i = omega (arith, l) in
    let behind : length ns - (i + 1) + 1 ≡ length ns - i = omega (arith, l) in
    drop_more ns (length ns - (i + 1)) d (omega (arith, l)) ∙ (λ j. get_or ns (here j) d ∷ drop (behind j) ns)

-- what stands twice behind stands twice
pub twice_behind : (k : ℕ) (ns : List ℕ) → all_apart (drop k ns) ≡ false → all_apart ns ≡ false
twice_behind zero ns e = e
twice_behind (suc k) [] e = e
twice_behind (suc k) (n ∷ ns) e = either (is_some (seen_in ns n)) (all_apart ns) (twice_behind k ns e)
  where
    either : (c b : Bool) → b ≡ false → (if c then false else b) ≡ false
    either true b e = refl
    either false b e = e

-- a number that stands behind as well
pub stands_twice : (ns : List ℕ) (i d : ℕ) → i < length ns
    → is_some (seen_in (drop (length ns - i) ns) (get_or ns (length ns - 1 - i) d)) ≡ true → false ≡ all_apart ns
stands_twice ns i d l e =
    sym (twice_behind (length ns - (i + 1)) ns
    (ap all_apart (next_from_behind ns i d l) ∙ ap (λ c. if c then false else all_apart (drop (length ns - i) ns)) e))

-- one that doesn't
pub stands_once : (ns : List ℕ) (i d : ℕ) → i < length ns
    → is_some (seen_in (drop (length ns - i) ns) (get_or ns (length ns - 1 - i) d)) ≡ false
    → all_apart (drop (length ns - i) ns) ≡ true → all_apart (drop (length ns - (i + 1)) ns) ≡ true
stands_once ns i d l e h =
    ap all_apart (next_from_behind ns i d l) ∙ ap (λ c. if c then false else all_apart (drop (length ns - i) ns)) e ∙ h
