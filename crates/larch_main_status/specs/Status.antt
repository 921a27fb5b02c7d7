-- The numbers of statuses, and which of them say that a session ended by itself or that all was done.
use Rattle.std.specs.Prelude.{ℕ}
use Rattle.larch_main_status.specs.declared.status.Status.{Status}
use Rattle.larch_main_status.specs.declared.status.Status.TheVariants.{Good, Remains, Words, ReadFault, WriteFault}
use Rattle.larch_main_status.specs.declared.status.Status.TheVariants.{Memory}
use Rattle.larch_main_status.specs.declared.status.Status.TheVariants.{Malformed, Size, NoFile}

-- what the process ends with
abbrev pub number_of : Status → ℕ
number_of Good = 0
number_of Remains = 1
number_of Words = 2
number_of ReadFault = 3
number_of WriteFault = 4
number_of Memory = 5
number_of Malformed = 6
number_of Size = 7
number_of NoFile = 8

-- a session ends by itself with one of these
abbrev pub IsEnd : Status → Type 0
IsEnd Good = Unit {0}
IsEnd Remains = Unit {0}
IsEnd Malformed = Unit {0}
IsEnd Size = Unit {0}
IsEnd _ = ⊥

-- all was done, and the status says whether something is left
abbrev pub IsDone : Status → Type 0
IsDone Good = Unit {0}
IsDone Remains = Unit {0}
IsDone _ = ⊥
