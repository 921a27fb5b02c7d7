-- What a refused put leaves.
use Rattle.std.specs.Prelude.{◌≡◌, ◌<◌, ℕ, List, ◌++◌, length, Option}
use Rattle.std.specs.Io.KnownBytes.{Appends}

-- a front of the bytes was appended, and not all of them
abbrev pub PutsFront : Option (List ℕ) → Option (List ℕ) → List ℕ → Type 0
PutsFront old new bytes =
    (front rest : List ℕ) × (bytes ≡ front ++ rest) × (0 < length rest) × Appends old new front
