-- Objects in memory whose calls may fail.
use Rattle.std.specs.Prelude.{◌≡◌, ℕ, List}
use Rattle.larch_io.specs.Faults.{one_more}
use Rattle.larch_io.specs.Folder.{FileMap}

-- which calls are to fail, how many bytes a call moves at most, how many calls there were, and how many failed
pub record CallCounts : Type 0 where
  pub failing : List ℕ
  pub most : ℕ
  pub made : ℕ
  pub faults : ℕ

-- no call yet
abbrev pub no_calls : List ℕ → ℕ → CallCounts
no_calls failing most = record { failing = failing; most = most; made = 0; faults = 0 }

-- there was one call more
pub record IsNextCall (old new : CallCounts) : Type 0 where
  pub made : new.made ≡ one_more old.made
  pub failing : new.failing ≡ old.failing
  pub most : new.most ≡ old.most

-- an object in memory: the bytes that it has left or holds, and its calls
pub record InMemory : Type 0 where
  pub bytes : List ℕ
  pub calls : CallCounts

-- files in memory, and the calls that looked at them
pub record FilesInMemory : Type 0 where
  pub files : FileMap
  pub calls : CallCounts
