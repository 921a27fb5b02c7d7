-- What a refusal means.
use Rattle.std.specs.Prelude.{Option, Some, None}
use Rattle.larch_base.specs.declared.fault.Fault.{Fault}
use Rattle.larch_base.specs.declared.position.Pos.{Pos}
use Rattle.larch_base.specs.declared.code.Code.{Code}
use Rattle.larch_base.specs.declared.code.Code.TheVariants as code
use Rattle.larch_grammar_law.specs.declared.mark.Flaw.{Flaw}
use Rattle.larch_grammar_law.specs.declared.mark.Flaw.TheVariants as flaw
use Rattle.larch_syntax.specs.declared.refusal.SyntaxRefusal.{SyntaxRefusal}
use Rattle.larch_syntax.specs.declared.refusal.SyntaxRefusal.TheVariants.{Syntax, Mixed, Deep, Large, Memory}

-- the code of a flaw
abbrev pub code_of : Flaw → Code
code_of flaw.Mixed = code.Mixed
code_of flaw.Syntax = code.Syntax
code_of flaw.Deep = code.Deep
code_of flaw.Large = code.Size

-- a flaw at a position, as a fault
abbrev pub fault_of : Flaw × Pos → Fault
fault_of found = record { pos = found.1; code = code_of found.0 }

-- the flaw that a refusal tells, with its position; out of memory tells none
abbrev pub flaw_told : SyntaxRefusal → Option (Flaw × Pos)
flaw_told (Syntax pos) = Some (flaw.Syntax, pos)
flaw_told (Mixed pos) = Some (flaw.Mixed, pos)
flaw_told (Deep pos) = Some (flaw.Deep, pos)
flaw_told (Large pos) = Some (flaw.Large, pos)
flaw_told Memory = None

-- the fault that a refusal tells; out of memory tells none
abbrev pub cause : SyntaxRefusal → Option Fault
cause (Syntax pos) = Some (fault_of (flaw.Syntax, pos))
cause (Mixed pos) = Some (fault_of (flaw.Mixed, pos))
cause (Deep pos) = Some (fault_of (flaw.Deep, pos))
cause (Large pos) = Some (fault_of (flaw.Large, pos))
cause Memory = None

-- the refusal by a flaw at a position
abbrev pub refusal_of : Flaw → Pos → SyntaxRefusal
refusal_of flaw.Mixed pos = Mixed pos
refusal_of flaw.Syntax pos = Syntax pos
refusal_of flaw.Deep pos = Deep pos
refusal_of flaw.Large pos = Large pos
