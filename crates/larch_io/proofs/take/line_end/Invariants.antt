use Rattle.std.proofs.Common.{take}
use Rattle.larch_io.specs.Take.{HasNoNewline}
use Rattle.larch_io.proofs.take.line_end.Given as goal

abbrev pub invariant-loop-place : goal.invariant-loop-place
invariant-loop-place l = HasNoNewline (take l.place l.bytes)
