-- What has a number in a list.
use Rattle.std.specs.Prelude.{ℕ, ◌==◌, ◌-◌, if◌then◌else◌, List, Option, None}
use Rattle.std.specs.List.{slice_get}

-- what has a number in a list, counted from 1
abbrev pub numbered : {X : Type 0} → List X → ℕ → Option X
numbered xs n = if n == 0 then None else slice_get xs (n - 1)
