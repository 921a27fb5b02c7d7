use Rattle.std.proofs.Common.{◌≡◌, ◌++◌, take}
use Rattle.larch_trim.proofs.names.push_numbers.Given as goal

abbrev pub invariant-loop-number : goal.invariant-loop-number
invariant-loop-number l = l.named ≡ l.fn.named ++ take l.number-index l.further
