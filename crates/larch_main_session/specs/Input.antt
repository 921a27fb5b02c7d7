-- The input of a session as a list of commands, each with its text, within the limits.
use Rattle.std.specs.Prelude.{◌≡◌, ◌≤◌, ℕ, true, false, List, [], ◌∷◌, ◌++◌, length, codes, Some}
use Rattle.larch_base.specs.FileName.{is_file_name, is_stem}
use Rattle.larch_base.specs.Label.{read_label}
use Rattle.larch_base.specs.declared.label.Label.{Label}
use Rattle.larch_base.specs.declared.limits.TheConstants.{MAX_FILE_BYTES}
use Rattle.larch_main_status.specs.TraitsFiles.{Table, drop_file, put_file}
use Rattle.larch_main_session.specs.Command.{is_blank, is_length, number_of_digits}
use Rattle.larch_main_status.specs.Limits.{put_is_refused}

-- a command of a session, `put` with the bytes that it brings
pub data Entry : Type 0 where
  skips : Entry
  puts : (name bytes : List ℕ) → Entry
  drops : (name : List ℕ) → Entry
  reports : Entry
  derives : (stem : List ℕ) (label : Label) → Entry
  quits : Entry

-- the line of a command, its newline left out: words with one blank between them
pub data IsSpelled : Entry → List ℕ → Type 0 where
  empty_line : IsSpelled skips []
  put_line : (name bytes digits : List ℕ) (blank between : ℕ) → is_blank blank ≡ true → is_blank between ≡ true
      → is_file_name name ≡ true → is_length digits ≡ true → number_of_digits digits ≡ length bytes
      → length bytes ≤ MAX_FILE_BYTES
      → IsSpelled (puts name bytes) (codes "put" ++ (blank ∷ (name ++ (between ∷ digits))))
  drop_line : (name : List ℕ) (blank : ℕ) → is_blank blank ≡ true → is_file_name name ≡ true
      → IsSpelled (drops name) (codes "drop" ++ (blank ∷ name))
  report_line : IsSpelled reports (codes "report")
  derive_line : (stem word : List ℕ) (label : Label) (blank between : ℕ) → is_blank blank ≡ true
      → is_blank between ≡ true → is_stem stem ≡ true → read_label word ≡ Some label
      → IsSpelled (derives stem label) (codes "derive" ++ (blank ∷ (stem ++ (between ∷ word))))
  quit_line : IsSpelled quits (codes "quit")

-- what stands behind the line of a command
abbrev pub bytes_behind : Entry → List ℕ
bytes_behind skips = []
bytes_behind (puts name bytes) = bytes
bytes_behind (drops name) = []
bytes_behind reports = []
bytes_behind (derives stem label) = []
bytes_behind quits = []

-- the files once a command is carried out
abbrev pub files_behind : Table → Entry → Table
files_behind files skips = files
files_behind files (puts name bytes) = put_file files name bytes
files_behind files (drops name) = drop_file files name
files_behind files reports = files
files_behind files (derives stem label) = files
files_behind files quits = files

-- a command puts no file too many
abbrev pub HasRoom : Table → Entry → Type 0
HasRoom files skips = Unit {0}
HasRoom files (puts name bytes) = put_is_refused files name ≡ false
HasRoom files (drops name) = Unit {0}
HasRoom files reports = Unit {0}
HasRoom files (derives stem label) = Unit {0}
HasRoom files quits = Unit {0}

-- Where there are these files, an input is these commands: each its line, a newline and its bytes. The last line may
-- lack its newline, and behind `quit` anything may stand.
pub data IsInputOf : Table → List Entry → List ℕ → Type 0 where
  no_more : {files : Table} → IsInputOf files [] []
  one_more : {files : Table} {entry : Entry} {entries : List Entry} {rest : List ℕ} (line : List ℕ)
      → IsSpelled entry line → HasRoom files entry → IsInputOf (files_behind files entry) entries rest
      → IsInputOf files (entry ∷ entries) (line ++ (10 ∷ (bytes_behind entry ++ rest)))
  last_one : {files : Table} {entry : Entry} (line : List ℕ)
      → IsSpelled entry line → HasRoom files entry → bytes_behind entry ≡ [] → IsInputOf files (entry ∷ []) line
  quit_before : {files : Table} (rest : List ℕ) → IsInputOf files (quits ∷ []) (codes "quit" ++ (10 ∷ rest))
