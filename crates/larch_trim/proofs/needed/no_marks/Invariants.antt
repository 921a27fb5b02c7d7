use Rattle.std.proofs.Common.{◌≡◌, false, replicate}
use Rattle.larch_trim.proofs.needed.no_marks.Given as goal

abbrev pub invariant-loop-line : goal.invariant-loop-line
invariant-loop-line l = l.marks.items ≡ replicate l._line false
