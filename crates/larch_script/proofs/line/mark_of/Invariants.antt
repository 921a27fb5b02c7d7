use Rattle.std.proofs.Common.{◌≡◌, length}
use Rattle.larch_script.specs.Line.{mark_of}
use Rattle.larch_script.proofs.line.mark_of.Given as goal

-- what is left of the line has its mark
abbrev pub invariant-loop-rest : goal.invariant-loop-rest
invariant-loop-rest l = mark_of l.rest ≡ mark_of l.line

abbrev pub decreases-loop-rest : goal.decreases-loop-rest
decreases-loop-rest l = length l.rest
