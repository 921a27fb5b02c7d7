-- What a refusal of the code tells.
use Rattle.std.specs.Prelude.{Option, Some, None, IfSome, ◌≡◌}
use Rattle.larch_base.specs.declared.code.Code.TheVariants as code
use Rattle.larch_base.specs.declared.fault.Fault.{Fault}
use Rattle.larch_base.specs.declared.position.Pos.{Pos}
use Rattle.larch_sorts_meaning.specs.Faults.{fault, fault_at}
use Rattle.larch_sorts_meaning.specs.declared.refusal.ReadRefusal.{ReadRefusal}
use Rattle.larch_sorts_meaning.specs.declared.refusal.ReadRefusal.TheVariants.{UnknownSort, NoReading, Ambiguous}
use Rattle.larch_sorts_meaning.specs.declared.refusal.ReadRefusal.TheVariants.{Memory}

-- the fault that a refusal tells; out of memory is none
abbrev pub cause : ReadRefusal → Option Fault
cause (UnknownSort pos) = Some (fault code.UnknownSort pos)
cause (NoReading pos) = Some (fault code.NoReading pos)
cause (Ambiguous pos) = Some (fault code.Ambiguous pos)
cause Memory = None

-- why a term has no table: a fault that the refusal tells is NO-READING, at the first part that has no reading
abbrev pub Unread : ReadRefusal → Option Pos → Type 0
Unread refusal pos = IfSome (cause refusal) (λ f. fault_at code.NoReading pos ≡ Some f)
