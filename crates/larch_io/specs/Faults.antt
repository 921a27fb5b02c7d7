-- Counts of faults.
use Rattle.std.specs.Prelude.{◌≤◌, ◌+◌, ◌-◌, ◌^◌, ℕ, min}

-- a counter's next value; it stands still at its last
abbrev pub one_more : ℕ → ℕ
one_more count = min (count + 1) (2 ^ 64 - 1)

-- the count of faults rose in a call, or stood at its last value
abbrev pub Rose : ℕ → ℕ → Type 0
Rose before now = one_more before ≤ now
