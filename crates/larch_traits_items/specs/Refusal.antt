-- What a refusal of the code tells.
use Rattle.std.specs.Prelude.{Option, Some, None}
use Rattle.larch_base.specs.declared.fault.Fault.{Fault}
use Rattle.larch_sorts.specs.SortsMeaningFaults.{fault}
use Rattle.larch_traits_items.specs.declared.refusal.TraitRefusal.{TraitRefusal}
use Rattle.larch_traits_items.specs.declared.refusal.TraitRefusal.TheVariants.{Wrong, Memory}

-- the fault that a refusal tells; out of memory is none
abbrev pub cause : TraitRefusal → Option Fault
cause (Wrong pos code) = Some (fault code pos)
cause Memory = None
