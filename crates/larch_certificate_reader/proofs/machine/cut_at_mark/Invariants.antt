use Rattle.std.proofs.Common.{take}
use Rattle.larch_certificate_reader.specs.MachineViews.{Unmarked}
use Rattle.larch_certificate_reader.proofs.machine.cut_at_mark.Given as goal

abbrev pub invariant-loop-i : goal.invariant-loop-i
invariant-loop-i l = Unmarked (take l.i l.text)
