-- The files that words name, taken from a folder.
use Rattle.std.specs.Prelude.{◌≡◌, ◌||◌, ℕ, nat_lt, if◌then◌else◌, List, [], ◌∷◌, length, Option, Some, None, IfSome}
use Rattle.larch_base.specs.declared.limits.TheConstants.{MAX_FILE_BYTES}
use Rattle.larch_io.specs.Folder.{FileMap, file_of}
use Rattle.larch_traits.specs.Files.{Table, put_file}
use Rattle.larch_main_status.specs.Limits.{put_is_refused}
use Rattle.larch_main_files.specs.declared.gather.Evidence.{Evidence}

-- what comes of looking for what words name
pub data Gathered (A : Type 0) : Type 0 where
  -- all of it is there
  Whole : A → Gathered A
  -- there is no file of this name
  Absent : List ℕ → Gathered A
  -- a file has too many bytes, or there are too many files
  TooLarge : Gathered A

-- all that a folder has, where it tells
abbrev pub IsFolder : Option FileMap → FileMap → Type 0
IsFolder told folder = IfSome told (λ files. files ≡ folder)

-- one file more, by what a folder has under its name: it may be absent, too long, or one too many
abbrev pub putting : Table → List ℕ → Option (List ℕ) → Gathered Table
putting files name None = Absent name
putting files name (Some bytes) =
    if nat_lt MAX_FILE_BYTES (length bytes) || put_is_refused files name then TooLarge
    else Whole (put_file files name bytes)

-- the first thing that is wrong ends it
abbrev pub and_then : {A B : Type 0} → Gathered A → (A → Gathered B) → Gathered B
and_then (Whole found) more = more found
and_then (Absent name) more = Absent name
and_then TooLarge more = TooLarge

-- the files of these names are put in, one after the other
abbrev pub gather_names : FileMap → Table → List (List ℕ) → Gathered Table
gather_names folder files [] = Whole files
gather_names folder files (name ∷ names) =
    and_then (putting files name (file_of folder name)) (λ more. gather_names folder more names)

-- a file that isn't put in, by what a folder has under its name: it may be absent or too long
abbrev pub fetching : List ℕ → Option (List ℕ) → Gathered (List ℕ)
fetching name None = Absent name
fetching name (Some bytes) = if nat_lt MAX_FILE_BYTES (length bytes) then TooLarge else Whole bytes

-- a certificate or a model comes first, then the files of these names
abbrev pub evidence_in : FileMap → List ℕ → List (List ℕ) → Gathered Evidence
evidence_in folder evidence names =
    and_then (fetching evidence (file_of folder evidence)) (λ text.
    and_then (gather_names folder [] names) (λ files. Whole (record { text = text; files = files })))
