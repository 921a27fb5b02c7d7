-- The least set of numbers that has a number and what its members want; and that set computed.
use Rattle.std.specs.Prelude.{ℕ, zero, suc, ◌==◌, ◌<◌, ◌≤◌, ◌||◌, ◌&&◌, Bool, false, List, [], ◌∷◌, map, length}
use Rattle.std.specs.Prelude.{Contains}
use Rattle.std.specs.List.{list_any}
use Rattle.std.specs.Option.{option_map_or}
use Rattle.larch_base.specs.ByNumber.{numbered}

-- of the numbers from 1 to the last one: the last one, and what one that is reached wants
pub data Reached (wants : ℕ → List ℕ) (last : ℕ) : ℕ → Type 0 where
  first : 0 < last → Reached wants last last
  further : (m n : ℕ) → Reached wants last m → Contains (wants m) n → 0 < n → n ≤ last → Reached wants last n

-- so many numbers, from one on
abbrev pub numbers_from : ℕ → ℕ → List ℕ
numbers_from n zero = []
numbers_from n (suc k) = n ∷ numbers_from (suc n) k

-- whether a number has a mark; the marks are those of the numbers from 1 on
abbrev pub is_marked : List Bool → ℕ → Bool
is_marked marks n = option_map_or (λ b. b) (numbered marks n) false

-- whether it has one, or one that has wants it
abbrev pub gets_mark : (ℕ → List ℕ) → List Bool → ℕ → Bool
gets_mark wants marks n =
    is_marked marks n
    || list_any (λ m. is_marked marks m && list_any (λ k. k == n) (wants m)) (numbers_from 1 (length marks))

-- the marks, and those of what a marked number wants
abbrev pub more_marks : (ℕ → List ℕ) → List Bool → List Bool
more_marks wants marks = map (gets_mark wants marks) (numbers_from 1 (length marks))

-- so many times over
abbrev pub rounds : ℕ → (List Bool → List Bool) → List Bool → List Bool
rounds zero f marks = marks
rounds (suc k) f marks = rounds k f (f marks)

-- the mark of the last of so many numbers alone
abbrev pub last_mark : ℕ → List Bool
last_mark last = map (λ k. k == last) (numbers_from 1 last)

-- the marks of what is reached: so many times over, there are no more to be found
abbrev pub reached_marks : (ℕ → List ℕ) → ℕ → List Bool
reached_marks wants last = rounds last (more_marks wants) (last_mark last)
