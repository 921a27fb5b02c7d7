-- Which files refer to which, by their numbers, and from which files references lead to one.
use Rattle.std.specs.Prelude.{◌≡◌, ◌↔◌, ℕ, ◌<◌, ◌≤◌, Bool, false, List, [], get_or, length, Contains}
use Rattle.std.specs.Bool.{Decides}
use Rattle.larch_flat_meaning.specs.Files.{Reaches}
use Rattle.larch_flat_sources.specs.Sources.{AreApart, Table, files_in, name_at, targets_of}

-- the numbers of the files that refer to the file with a number
abbrev pub referring : List (List ℕ) → ℕ → List ℕ
referring links number = get_or links number []

-- each number that stands in the links is one of theirs
abbrev pub AreWithin : List (List ℕ) → Type 0
AreWithin links = (number m : ℕ) → Contains (referring links number) m → m < length links

-- the links of a table: for each file the numbers of those that refer to it, no more of them than there are files
pub record AreLinks (table : Table) (links : List (List ℕ)) : Type 0 where
  pub apart : AreApart table
  pub size : length links ≡ length table
  pub each : (number m : ℕ) → number < length table
      → Contains (referring links number) m ↔ ((m < length table)
      × Contains (targets_of table m) (name_at table number))
  pub short : (number : ℕ) → length (referring links number) ≤ length table

-- links lead from one number to another, in some number of steps
pub data Leads (links : List (List ℕ)) : ℕ → ℕ → Type 0 where
  arrived : {a : ℕ} → Leads links a a
  one_more : {a b c : ℕ} → Contains (referring links b) a → Leads links b c → Leads links a c

-- whether a number is marked
abbrev pub is_marked : List Bool → ℕ → Bool
is_marked marks number = get_or marks number false

-- the marked files are those whose references lead to the file with a number
abbrev pub AreLeading : Table → List Bool → ℕ → Type 0
AreLeading table marks number =
    (m : ℕ) → m < length table
    → Decides (is_marked marks m) (Reaches (files_in table) (name_at table m) (name_at table number))
