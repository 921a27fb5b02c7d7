-- What the code has gathered so far, and what one look at a folder adds.
use Rattle.std.specs.Prelude.{◌≡◌, ◌⊎◌, true, false, ℕ, nat_lt, List, [], length, Option, Some, None, IfSome, Result}
use Rattle.std.specs.Prelude.{Ok, Err}
use Rattle.std.specs.Cmp.Lexicographic.{slice_cmp}
use Rattle.std.specs.List.Sorted.{IsStrictlySortedBy}
use Rattle.std.specs.Ordering.{nat_cmp}
use Rattle.larch_base.specs.declared.limits.TheConstants.{MAX_FILE_BYTES}
use Rattle.larch_io.specs.Folder.{FileMap, file_of}
use Rattle.larch_io.specs.declared.refusal.FolderRefusal.{FolderRefusal}
use Rattle.larch_io.specs.declared.refusal.FolderRefusal.TheVariants.{Failed, NotThere, TooLong, Memory}
use Rattle.larch_traits.specs.Files.{Table, has_file, names_of, text_of}
use Rattle.larch_io.specs.Faults.{Rose}
use Rattle.larch_main_files.specs.Gather.{Gathered, Whole, Absent, TooLarge, IsFolder, evidence_in, fetching, putting}
use Rattle.larch_main_files.specs.Gather.{gather_names}
use Rattle.larch_main_files.specs.declared.gather.Evidence.{Evidence}
use Rattle.larch_main_files.specs.declared.gather.GatherRefusal.{GatherRefusal}
use Rattle.larch_main_files.specs.declared.gather.GatherRefusal.TheVariants as refusal_

-- what was gathered, or why not all was; a fault of the folder and want of memory tell nothing
abbrev pub found_of : {A : Type 0} → Result A GatherRefusal → Option (Gathered A)
found_of (Ok found) = Some (Whole found)
found_of (Err (refusal_.Absent name)) = Some (Absent name)
found_of (Err refusal_.TooLarge) = Some TooLarge
found_of (Err refusal_.ReadFault) = None
found_of (Err refusal_.Memory) = None

-- a refusal counts a fault of the folder exactly where that failed
abbrev pub GatherFaults : GatherRefusal → ℕ → ℕ → Type 0
GatherFaults (refusal_.Absent name) before now = now ≡ before
GatherFaults refusal_.TooLarge before now = now ≡ before
GatherFaults refusal_.ReadFault before now = Rose before now
GatherFaults refusal_.Memory before now = now ≡ before

-- the refusal for a name, where the folder refused to give its file; that the name isn't there may want memory
abbrev pub IsRefusalFor : List ℕ → FolderRefusal → GatherRefusal → Type 0
IsRefusalFor name NotThere (refusal_.Absent other) = other ≡ name
IsRefusalFor name NotThere refusal_.TooLarge = ⊥
IsRefusalFor name NotThere refusal_.ReadFault = ⊥
IsRefusalFor name NotThere refusal_.Memory = Unit {0}
IsRefusalFor name TooLong refusal = refusal ≡ refusal_.TooLarge
IsRefusalFor name Failed refusal = refusal ≡ refusal_.ReadFault
IsRefusalFor name Memory refusal = refusal ≡ refusal_.Memory

-- this is what a folder has under a name, where it tells
abbrev pub IsSeen : Option FileMap → List ℕ → Option (List ℕ) → Type 0
IsSeen told name seen = IfSome told (λ folder. file_of folder name ≡ seen)

-- of a name that isn't there yet, the folder shows what comes to this
pub record Shows (told : Option FileMap) (files : Table) (name : List ℕ) (found : Gathered Table) : Type 0 where
  pub new : has_file files name ≡ false
  pub seen : Option (List ℕ)
  pub is_seen : IsSeen told name seen
  pub comes_to : putting files name seen ≡ found

-- What a look at one name did: it was there already, or is put in; or it is absent, or a limit is passed. A fault of
-- the folder and want of memory tell nothing.
abbrev pub Looks : Option FileMap → Table → Table → List ℕ → Result (Unit {0}) FolderRefusal → Type 0
Looks told old new name (Ok _) = ((has_file old name ≡ true) × (new ≡ old)) ⊎ Shows told old name (Whole new)
Looks told old new name (Err Failed) = Unit {0}
Looks told old new name (Err NotThere) = Shows told old name (Absent name)
Looks told old new name (Err TooLong) = Shows told old name TooLarge
Looks told old new name (Err Memory) = Unit {0}

-- what these files are of a folder
abbrev pub AreOf : Option FileMap → Table → Type 0
AreOf told files = (name bytes : List ℕ) → text_of files name ≡ Some bytes → IsSeen told name (Some bytes)

-- These files were gathered of the first names, and these names are left: on every folder that has the files, what
-- comes of all names is what comes of the rest.
pub record Gathers (told : Option FileMap) (names rest : List (List ℕ)) (files : Table) : Type 0 where
  pub sorted : IsStrictlySortedBy (slice_cmp nat_cmp) (names_of files)
  pub short : (name bytes : List ℕ) → text_of files name ≡ Some bytes → nat_lt MAX_FILE_BYTES (length bytes) ≡ false
  pub are_of : AreOf told files
  pub onward : (folder : FileMap) → AreOf (Some folder) files
      → gather_names folder [] names ≡ gather_names folder files rest

-- some folder, the told one where it is told, comes to this by these names
pub record ComesTo (told : Option FileMap) (names : List (List ℕ)) (found : Gathered Table) : Type 0 where
  pub folder : FileMap
  pub is_folder : IsFolder told folder
  pub is_found : gather_names folder [] names ≡ found

-- what a folder has under a name, told or not, comes to this as a file that isn't put in
pub record Fetches (told : Option FileMap) (name : List ℕ) (found : Gathered (List ℕ)) : Type 0 where
  pub seen : Option (List ℕ)
  pub is_seen : IsSeen told name seen
  pub comes_to : fetching name seen ≡ found

-- some folder, the told one where it is told, comes to this by the name of a certificate or a model and these names
pub record EvidenceFor (told : Option FileMap) (evidence : List ℕ) (names : List (List ℕ))
    (found : Gathered Evidence)
    : Type 0 where
  pub folder : FileMap
  pub is_folder : IsFolder told folder
  pub is_found : evidence_in folder evidence names ≡ found
