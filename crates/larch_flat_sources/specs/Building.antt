-- The links as far as they are found.
use Rattle.std.specs.Prelude.{◌≡◌, ◌↔◌, ◌⊎◌, ℕ, suc, ◌<◌, ◌≤◌, ◌-◌, ◌==◌, Bool, false, cond, List, [], ◌∷◌, ◌++◌}
use Rattle.std.specs.Prelude.{length, set, Contains, Option, Some, None}
use Rattle.std.specs.List.{slice_get}
use Rattle.larch_flat_sources.specs.Links.{referring}
use Rattle.larch_flat_sources.specs.Sources.{AreApart, Table, name_at, targets_of}

-- whether this number is there and is that one
abbrev pub is_this : Option ℕ → ℕ → Bool
is_this None number = false
is_this (Some n) number = n == number

-- whether a number is the last of some
abbrev pub is_last : List ℕ → ℕ → Bool
is_last numbers number = is_this (slice_get numbers (length numbers - 1)) number

-- the numbers with one more, unless it is the last of them
abbrev pub with_last : List ℕ → ℕ → List ℕ
with_last numbers number = cond (is_last numbers number) numbers (numbers ++ number ∷ [])

-- the links with one more
abbrev pub with_link : List (List ℕ) → ℕ → ℕ → List (List ℕ)
with_link links to from = set links to (with_last (referring links to) from)

-- a file before this one, or this one by one of these names, refers to the file with a number
abbrev pub Refers : Table → ℕ → List (List ℕ) → ℕ → ℕ → Type 0
Refers table number names m to =
    ((m < number) × Contains (targets_of table m) (name_at table to))
    ⊎ ((m ≡ number) × Contains names (name_at table to))

-- the links of the files before one, and of that one by these names
pub record AreLinksSoFar (table : Table) (number : ℕ) (names : List (List ℕ)) (links : List (List ℕ)) : Type 0 where
  pub apart : AreApart table
  pub size : length links ≡ length table
  pub each : (to m : ℕ) → to < length table → Contains (referring links to) m ↔ Refers table number names m to
  pub short : (to : ℕ)
      → length (referring links to) ≤ cond (is_last (referring links to) number) (suc number) number
