-- What a refused command tells.
use Rattle.std.specs.Prelude.{◌≡◌, Result, Err}
use Rattle.larch_base.specs.declared.code.Code.{Code}
use Rattle.larch_base.specs.declared.code.Code.TheVariants as code
use Rattle.larch_prove_settings.specs.declared.refusal.CommandRefusal.{CommandRefusal}
use Rattle.larch_prove_settings.specs.declared.refusal.CommandRefusal.TheVariants.{Wrong, Memory}
use Rattle.larch_sorts_meaning.specs.declared.refusal.ReadRefusal.{ReadRefusal}
use Rattle.larch_sorts_meaning.specs.declared.refusal.ReadRefusal.TheVariants as unread

-- a refusal of the code tells the code of a step's refusal; out of memory it tells nothing
abbrev pub Tells : {A : Type 0} → Result A Code → CommandRefusal → Type 0
Tells answer (Wrong code) = answer ≡ Err code
Tells answer Memory = Unit {0}

-- the refusal of a command, an equation or term of which isn't read
abbrev pub refusal_of : ReadRefusal → CommandRefusal
refusal_of (unread.UnknownSort pos) = Wrong code.UnknownSort
refusal_of (unread.NoReading pos) = Wrong code.NoReading
refusal_of (unread.Ambiguous pos) = Wrong code.Ambiguous
refusal_of unread.Memory = Memory
