-- Numbers of which none stands twice.
use Rattle.std.specs.Prelude.{ℕ, ◌==◌, if◌then◌else◌, Bool, true, false, List, [], ◌∷◌, Option, Some, None}
use Rattle.std.specs.Option.{is_some}

-- a number, if it stands in a list
abbrev pub seen_in : List ℕ → ℕ → Option ℕ
seen_in [] q = None
seen_in (n ∷ ns) q = if n == q then Some n else seen_in ns q

-- whether no number stands twice
abbrev pub all_apart : List ℕ → Bool
all_apart [] = true
all_apart (n ∷ ns) = if is_some (seen_in ns n) then false else all_apart ns
