-- To how many files references lead.
use Rattle.std.specs.Prelude.{ℕ, List, [], ◌∷◌, length, Result, Ok, Err}
use Rattle.larch_flat_meaning.specs.Files.{Files, closure}
use Rattle.larch_flat_meaning.specs.Stops.{Stop}

-- how many names are told
abbrev pub count_told : Result (List (List ℕ)) Stop → ℕ
count_told (Ok names) = length names
count_told (Err stop) = 0

-- how many files the file of a name leads to, itself among them, where so many rounds tell
abbrev pub reach_count : ℕ → Files → List ℕ → ℕ
reach_count limit files name = count_told (closure files limit (name ∷ []))
