-- What becomes of a text that is to be written at the end.
use Rattle.std.specs.Prelude.{◌≡◌, ◌⊎◌, ℕ, List, Option}
use Rattle.std.specs.Io.KnownBytes.{Appends}
use Rattle.larch_io.specs.Faults.{Rose}
use Rattle.larch_io.specs.Put.{PutsFront}
use Rattle.larch_main_status.specs.declared.status.Status.{Status}
use Rattle.larch_main_status.specs.declared.status.Status.TheVariants.{WriteFault, Memory}

-- it was written whole, and the status is the wanted one; or a proper front was, and the sink failed or lacked memory
abbrev pub Says : Option (List ℕ) → Option (List ℕ) → ℕ → ℕ → List ℕ → Status → Status → Type 0
Says held holds before now said wanted status =
    ((status ≡ wanted) × Appends held holds said × (now ≡ before))
    ⊎ (((status ≡ WriteFault) × PutsFront held holds said × Rose before now)
    ⊎ ((status ≡ Memory) × PutsFront held holds said × (now ≡ before)))
