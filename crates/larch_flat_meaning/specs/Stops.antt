-- Why there may be no answer about traits that refer to one another.
use Rattle.std.specs.Prelude.{if◌then◌else◌, Bool, Result, Ok, Err}
use Rattle.larch_base.specs.declared.code.Code.{Code}
use Rattle.larch_base.specs.declared.fault.Fault.{Fault}
use Rattle.larch_base.specs.declared.position.Pos.{Pos}
use Rattle.larch_shorthand.specs.SortsMeaningFaults.{fault}

-- something is wrong; or references weren't followed deep enough to tell
pub data Stop : Type 0 where
  Refused : Fault → Stop
  TooDeep : Stop

-- an answer of one that is always told, among those that may not be
abbrev pub surely : {A : Type 0} → Result A Fault → Result A Stop
surely (Ok x) = Ok x
surely (Err f) = Err (Refused f)

-- this code at this position where it is so, or else an answer
abbrev pub refused_if : {A : Type 0} → Code → Pos → Bool → Result A Fault → Result A Fault
refused_if code pos is_so answer = if is_so then Err (fault code pos) else answer

-- the same where the answer may not be told
abbrev pub stopped_if : {A : Type 0} → Code → Pos → Bool → Result A Stop → Result A Stop
stopped_if code pos is_so answer = if is_so then Err (Refused (fault code pos)) else answer
