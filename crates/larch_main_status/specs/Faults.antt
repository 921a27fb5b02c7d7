-- What a status, or that there is none, says of counts of faults.
use Rattle.std.specs.Prelude.{◌≡◌, ℕ, Bool, true, false, MatchBool}
use Rattle.larch_io.specs.Faults.{Rose}
use Rattle.larch_main_status.specs.declared.halt.Halt.{Halt}
use Rattle.larch_main_status.specs.declared.halt.Halt.TheVariants as halt_
use Rattle.larch_main_status.specs.declared.status.Status.{Status}
use Rattle.larch_main_status.specs.declared.status.Status.TheVariants.{ReadFault, WriteFault}

-- a status says that what is read failed
abbrev pub read_failed : Status → Bool
read_failed ReadFault = true
read_failed _ = false

-- a status says that the sink failed
abbrev pub sink_failed : Status → Bool
sink_failed WriteFault = true
sink_failed _ = false

-- a count of faults rose exactly where this is so
abbrev pub Counts : Bool → ℕ → ℕ → Type 0
Counts failed before now = MatchBool failed (Rose before now) (now ≡ before)

-- a count of faults rose exactly where a halt says so
abbrev pub HaltFaults : Halt → ℕ → ℕ → Type 0
HaltFaults halt_.ReadFault before now = Rose before now
HaltFaults halt_.Memory before now = now ≡ before
