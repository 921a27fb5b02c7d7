-- Words that are taken.
use Rattle.std.specs.Prelude.{◌≡◌, ℕ, if◌then◌else◌, List, [], ◌∷◌, ◌++◌, bytes_eq}
use Rattle.std.specs.List.{list_any}

-- names with one more behind them, unless it is there
abbrev pub with_word : List (List ℕ) → List ℕ → List (List ℕ)
with_word names n = if list_any (bytes_eq n) names then names else (names ++ n ∷ [])

-- names are found among these exactly where they stand among those
abbrev pub FindsNames : List (List ℕ) → List (List ℕ) → Type 0
FindsNames index names = (n : List ℕ) → list_any (bytes_eq n) index ≡ list_any (bytes_eq n) names
