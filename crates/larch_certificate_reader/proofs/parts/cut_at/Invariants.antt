use Rattle.std.proofs.Common.{take}
use Rattle.larch_certificate_text.specs.ByteClasses.{Lacks}
use Rattle.larch_certificate_reader.proofs.parts.cut_at.Given as goal

abbrev pub invariant-loop-i : goal.invariant-loop-i
invariant-loop-i l = Lacks l.byte (take l.i l.text)
