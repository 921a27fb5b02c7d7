-- Statements under numbers, behind the first one.
use Rattle.std.proofs.Common.{◌≡◌, ℕ, zero, suc, ◌-◌, List, ◌∷◌, map, Option, refl, sym, ◌∙◌, ap, arith}
use Rattle.std.specs.List.{slice_get}
use Rattle.std.specs.Option.{option_map}
use Rattle.std.proofs.lemmas.Option.{slice_get-map}

pub behind_first : {X Y : Type 0} (f : X → Y) (y : Y) (xs : List X) (n : ℕ) (o : Option X) → (n ≡ 0 → ⊥)
    → o ≡ slice_get xs (n - 1)
    → option_map f o ≡ slice_get (y ∷ map f xs) n
behind_first f y xs zero o h e = absurd (h refl)
behind_first f y xs (suc k) o h e =
    let i : suc k - 1 ≡ k = omega arith in
    ap (option_map f) (e ∙ ap (slice_get xs) i) ∙ sym (slice_get-map f xs k)
