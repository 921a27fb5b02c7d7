use Rattle.std.proofs.Common.{◌≡◌, suc, replicate}
use Rattle.larch_trim.proofs.ends.no_ends.Given as goal

abbrev pub invariant-loop-line : goal.invariant-loop-line
invariant-loop-line l = l.ends.items ≡ replicate (suc l._line) 0
