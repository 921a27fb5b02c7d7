-- Files of a folder, each a name with its bytes.
use Rattle.std.specs.Prelude.{◌≡◌, if◌then◌else◌, ℕ, List, [], ◌∷◌, ◌++◌, Option, Some, None, option_map}
use Rattle.std.specs.Str.{bytes_eq}
use Rattle.std.specs.Map.{lookup}

-- names with the bytes of their files
abbrev pub FileMap : Type 0
FileMap = List (List ℕ × List ℕ)

-- the bytes of the file of a name, where there is one
abbrev pub file_of : FileMap → List ℕ → Option (List ℕ)
file_of files name = lookup (bytes_eq name) files

-- the file is put in, in the place of the one that had its name; all others stay
abbrev pub PutsFile : FileMap → FileMap → List ℕ → List ℕ → Type 0
PutsFile old new name bytes =
    (other : List ℕ) → file_of new other ≡ (if bytes_eq name other then Some bytes else file_of old other)

-- these are the bytes of the file of a name, where the files are told
abbrev pub IsFile : Option FileMap → List ℕ → List ℕ → Type 0
IsFile None name bytes = Unit {0}
IsFile (Some files) name bytes = file_of files name ≡ Some bytes

-- the names that were looked for with one more behind them, where they are told
abbrev pub with_look : Option (List (List ℕ)) → List ℕ → Option (List (List ℕ))
with_look looks name = option_map (λ names. names ++ name ∷ []) looks
