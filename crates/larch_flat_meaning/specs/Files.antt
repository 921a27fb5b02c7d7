-- The trait files among which references lead.
use Rattle.std.specs.Prelude.{ℕ, zero, suc, if◌then◌else◌, ◌==◌, Bool, is_some, bytes_eq, length, Contains}
use Rattle.std.specs.Prelude.{List, [], ◌∷◌, map, filter, fold, Option, Some, None, Result, Ok, Err}
use Rattle.std.specs.List.{list_any, flat_map}
use Rattle.larch_base.specs.declared.fault.Fault.{Fault}
use Rattle.larch_raw.specs.declared.equation.RawTrait.{RawTrait}
use Rattle.larch_raw.specs.declared.reference.RawReference.{RawReference}
use Rattle.larch_flat_meaning.specs.Stops.{Stop, TooDeep}

-- what the text of the file of each name says: a trait as it is written, or what is wrong with the text
abbrev pub Files : Type 0
Files = List ℕ → Option (Result RawTrait Fault)

-- the name of the trait that a reference names
abbrev pub target : RawReference → List ℕ
target r = r.target.name.name

-- the names that the references of a text name: none where there is no text, or something is wrong with it
abbrev pub targets_in : Option (Result RawTrait Fault) → List (List ℕ)
targets_in None = []
targets_in (Some (Err fault)) = []
targets_in (Some (Ok raw)) = map target raw.references

-- the references of a file lead to another file, in some number of steps
pub data Reaches (files : Files) : List ℕ → List ℕ → Type 0 where
  here : {a : List ℕ} → Reaches files a a
  there : {a b c : List ℕ} → Contains (targets_in (files a)) b → Reaches files b c → Reaches files a c

-- the names with one more, unless it is there
abbrev pub with_name : List (List ℕ) → List ℕ → List (List ℕ)
with_name names n = if list_any (bytes_eq n) names then names else n ∷ names

-- there is a file of this name
abbrev pub is_there : Files → List ℕ → Bool
is_there files n = is_some (files n)

-- the names that the file of a name refers to and of which there are files
abbrev pub next_files : Files → List ℕ → List (List ℕ)
next_files files n = filter (is_there files) (targets_in (files n))

-- the names with the files that their files refer to
abbrev pub spread : Files → List (List ℕ) → List (List ℕ)
spread files names = fold with_name names (flat_map (next_files files) names)

-- the names with all files that their files lead to, where so many rounds tell
abbrev pub closure : Files → ℕ → List (List ℕ) → Result (List (List ℕ)) Stop
closure files zero names = Err TooDeep
closure files (suc n) names =
    if length (spread files names) == length names then Ok names else closure files n (spread files names)
