-- Faults: codes at positions, and what is answered where nothing is wrong.
use Rattle.std.specs.Prelude.{Err, None, Option, Result, Some}
use Rattle.larch_base.specs.declared.code.Code.{Code}
use Rattle.larch_base.specs.declared.fault.Fault.{Fault}
use Rattle.larch_base.specs.declared.position.Pos.{Pos}

-- this code at this position
abbrev pub fault : Code → Pos → Fault
fault code pos = record { pos = pos; code = code }

-- this code at a position, if there is one
abbrev pub fault_at : Code → Option Pos → Option Fault
fault_at code None = None
fault_at code (Some pos) = Some (fault code pos)

-- an answer, unless something is wrong before it
abbrev pub unless : {A : Type 0} → Option Fault → Result A Fault → Result A Fault
unless (Some f) answer = Err f
unless None answer = answer
