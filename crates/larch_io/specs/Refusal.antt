-- What each refusal means: which faults it counts, and why nothing was given or taken.
use Rattle.std.specs.Prelude.{◌≡◌, ◌<◌, ◌≤◌, ℕ, Bool, true, false, List, [], length}
use Rattle.std.specs.Prelude.{Option, Some, None, IsSomeAnd}
use Rattle.larch_base.specs.declared.limits.TheConstants.{MAX_FILE_BYTES}
use Rattle.larch_io.specs.Faults.{Rose}
use Rattle.larch_io.specs.Folder.{FileMap, file_of}
use Rattle.larch_io.specs.Reader.{Taken, room_of}
use Rattle.larch_io.specs.Take.{IsLine, IsTooLong, PassesRoom}
use Rattle.larch_io.specs.declared.refusal.FolderRefusal.{FolderRefusal}
use Rattle.larch_io.specs.declared.refusal.FolderRefusal.TheVariants as folder
use Rattle.larch_io.specs.declared.refusal.TakeRefusal.{TakeRefusal}
use Rattle.larch_io.specs.declared.refusal.TakeRefusal.TheVariants as taking
use Rattle.larch_io.specs.declared.refusal.WriteRefusal.{WriteRefusal}
use Rattle.larch_io.specs.declared.refusal.WriteRefusal.TheVariants as writing

-- a refused write counts a fault exactly where it failed
abbrev pub WriteFaults : WriteRefusal → ℕ → ℕ → Type 0
WriteFaults writing.Failed before now = Rose before now
WriteFaults writing.Memory before now = now ≡ before

-- a refused look at a file counts a fault exactly where it failed
abbrev pub FolderFaults : FolderRefusal → ℕ → ℕ → Type 0
FolderFaults folder.Failed before now = Rose before now
FolderFaults folder.NotThere before now = now ≡ before
FolderFaults folder.TooLong before now = now ≡ before
FolderFaults folder.Memory before now = now ≡ before

-- why a file was not given, where the files are told: it isn't there, or has too many bytes
abbrev pub FileRefused : FolderRefusal → Option FileMap → List ℕ → Type 0
FileRefused refusal None name = Unit {0}
FileRefused folder.Failed (Some files) name = Unit {0}
FileRefused folder.NotThere (Some files) name = file_of files name ≡ None
FileRefused folder.TooLong (Some files) name = IsSomeAnd (file_of files name) (λ bytes. MAX_FILE_BYTES < length bytes)
FileRefused folder.Memory (Some files) name = Unit {0}

-- a refusal to take counts a fault of the source exactly where it is one
abbrev pub TakeFaults : TakeRefusal → ℕ → ℕ → Type 0
TakeFaults taking.ReadFault before now = Rose before now
TakeFaults taking.End before now = now ≡ before
TakeFaults taking.TooLong before now = now ≡ before
TakeFaults taking.Full before now = now ≡ before
TakeFaults taking.Memory before now = now ≡ before

-- one read is refused by a fault, before the source has ended, or for lack of memory
abbrev pub FillRefused : Bool → TakeRefusal → Type 0
FillRefused ended taking.ReadFault = ended ≡ false
FillRefused ended taking.End = ⊥
FillRefused ended taking.TooLong = ⊥
FillRefused ended taking.Full = ⊥
FillRefused ended taking.Memory = Unit {0}

-- why no line was taken, the reader before and after being these
abbrev pub LineRefused : TakeRefusal → Taken → Taken → Type 0
LineRefused taking.ReadFault old new = (new.ended ≡ false) × IsLine new.kept × (length new.kept ≤ room_of old)
LineRefused taking.End old new = (new.kept ≡ []) × (new.ended ≡ true)
LineRefused taking.TooLong old new = IsTooLong (room_of old) new.kept
LineRefused taking.Full old new = PassesRoom (room_of old) new.kept
LineRefused taking.Memory old new = Unit {0}

-- why so many bytes weren't taken; the limit of a line is no reason
abbrev pub BytesRefused : TakeRefusal → ℕ → Taken → Taken → Type 0
BytesRefused taking.ReadFault count old new =
    (new.ended ≡ false) × (length new.kept < count) × (length new.kept ≤ room_of old)
BytesRefused taking.End count old new =
    (new.ended ≡ true) × (length new.kept < count) × (length new.kept ≤ room_of old)
BytesRefused taking.TooLong count old new = ⊥
BytesRefused taking.Full count old new = (room_of old < length new.kept) × (room_of old < count)
BytesRefused taking.Memory count old new = Unit {0}
