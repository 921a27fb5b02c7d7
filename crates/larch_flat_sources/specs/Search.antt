-- How far a search against the references has come.
use Rattle.std.specs.Prelude.{◌≡◌, ℕ, suc, ◌<◌, ◌≤◌, Bool, true, cond, List, [], ◌∷◌, get_or, length, Contains, Some}
use Rattle.std.specs.List.{slice_get}
use Rattle.larch_flat_sources.specs.Links.{Leads, is_marked, referring}

-- how many numbers are marked
abbrev pub marked_count : List Bool → ℕ
marked_count [] = 0
marked_count (b ∷ bs) = cond b (suc (marked_count bs)) (marked_count bs)

-- what is found leads to the first that was found, and all is found that is marked; what refers to the numbers before
-- the next one is marked
pub record Searching (links : List (List ℕ)) (marks : List Bool) (found : List ℕ) (next : ℕ) : Type 0 where
  pub size : length marks ≡ length links
  pub counted : length found ≤ marked_count marks
  pub within : (m : ℕ) → Contains found m → m < length links
  pub led : (m : ℕ) → Contains found m → Leads links m (get_or found 0 0)
  pub listed : (m : ℕ) → is_marked marks m ≡ true → Contains found m
  pub first : is_marked marks (get_or found 0 0) ≡ true
  pub closed : (i b a : ℕ) → i < next → slice_get found i ≡ Some b → Contains (referring links b) a
      → is_marked marks a ≡ true
