-- What a reader keeps, reads and takes.
use Rattle.std.specs.Prelude.{◌≡◌, ◌+◌, ◌-◌, ◌⊎◌, ℕ, Bool, true, List, [], ◌++◌, length, Option}
use Rattle.std.specs.Io.KnownBytes.{Consumes, IsAtEnd}
use Rattle.larch_base.specs.declared.limits.TheConstants.{MAX_SOURCE_BYTES}

-- a reader as contracts see it: the bytes that it keeps, how many were taken from it, and whether its source has ended
pub record Taken : Type 0 where
  pub kept : List ℕ
  pub count : ℕ
  pub ended : Bool

-- how many bytes may still be taken
abbrev pub room_of : Taken → ℕ
room_of reader = MAX_SOURCE_BYTES - reader.count

-- the source gave these bytes in a call; a reader whose source has ended reads no more
pub record ReadsBytes (old new : Taken) (before after : Option (List ℕ)) (given : List ℕ) : Type 0 where
  pub gave : Consumes before after given
  pub quiet : old.ended ≡ true → (given ≡ []) × (after ≡ before) × (new.ended ≡ true)
  pub ends : new.ended ≡ true → (old.ended ≡ true) ⊎ IsAtEnd after

-- These bytes were taken, and counted: what the reader kept and what the source gave are they and what the reader
-- keeps now.
pub record Takes (old new : Taken) (before after : Option (List ℕ)) (bytes : List ℕ) : Type 0 where
  pub given : List ℕ
  pub reads : ReadsBytes old new before after given
  pub moved : old.kept ++ given ≡ bytes ++ new.kept
  pub counted : new.count ≡ old.count + length bytes
