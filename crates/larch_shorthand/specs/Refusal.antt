-- What a refusal of the code tells.
use Rattle.std.specs.Prelude.{Option, Some, None}
use Rattle.larch_base.specs.declared.code.Code.TheVariants as code
use Rattle.larch_base.specs.declared.fault.Fault.{Fault}
use Rattle.larch_traits_items.specs.SortsMeaningFaults.{fault}
use Rattle.larch_shorthand.specs.declared.refusal.ExpandRefusal.{ExpandRefusal}
use Rattle.larch_shorthand.specs.declared.refusal.ExpandRefusal.TheVariants.{FieldTwice, BuiltIn, Memory}

-- the fault that a refusal tells; out of memory is none
abbrev pub cause : ExpandRefusal → Option Fault
cause (FieldTwice pos) = Some (fault code.FieldTwice pos)
cause (BuiltIn pos) = Some (fault code.BuiltIn pos)
cause Memory = None
