-- Places of which none leads to or below the other.
use Rattle.std.specs.Prelude.{◌≢◌, ◌≡◌, ℕ, List, [], ◌∷◌, ◌⊎◌}

-- two places part: behind a common front their next argument numbers differ
abbrev pub Part : List ℕ → List ℕ → Type 0
Part [] q = ⊥
Part (k ∷ p) [] = ⊥
Part (k ∷ p) (j ∷ q) = (k ≢ j) ⊎ ((k ≡ j) × Part p q)
