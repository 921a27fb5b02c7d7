-- What refusals tell.
use Rattle.std.proofs.Common.{◌≡◌, Option, Some, None, IfSome}
use Rattle.std.specs.Option.{option_or}
use Rattle.larch_base.specs.declared.code.Code.{Code}
use Rattle.larch_base.specs.declared.fault.Fault.{Fault}
use Rattle.larch_base.specs.declared.position.Pos.{Pos}
use Rattle.larch_sorts_meaning.specs.Faults.{fault_at}
use Rattle.larch_sorts_meaning.specs.Refusal.{cause}
use Rattle.larch_sorts_meaning.specs.declared.refusal.ReadRefusal.{ReadRefusal}

some_weaker : (o : Option Fault) (P Q : Fault → Type 0) → ((f : Fault) → P f → Q f) → IfSome o P → IfSome o Q
some_weaker None P Q w h = tt
some_weaker (Some f) P Q w h = w f h

-- what holds of the fault that is told holds in a weaker form
pub told_weaker : (refusal : ReadRefusal) (P Q : Fault → Type 0) → ((f : Fault) → P f → Q f) → IfSome (cause refusal) P
    → IfSome (cause refusal) Q
told_weaker refusal P Q w h = some_weaker (cause refusal) P Q w h

-- a fault at the first of two positions
pub fault_first : (code : Code) (a b : Option Pos) (f : Fault) → fault_at code a ≡ Some f
    → fault_at code (option_or a b) ≡ Some f
fault_first code None b f e = cc
fault_first code (Some pos) b f e = e
