use Rattle.std.proofs.Common.{take}
use Rattle.larch_models.proofs.Cuts.{Lacks}
use Rattle.larch_models.proofs.parts.cut.Given as goal

abbrev pub invariant-loop-i : goal.invariant-loop-i
invariant-loop-i l = Lacks l.byte (take l.i l.text)
