use Rattle.std.proofs.Common.{◌≡◌, take}
use Rattle.larch_derive.proofs.copying.copy_numbers.Given as goal

-- the numbers so far are copied
abbrev pub invariant-loop-number : goal.invariant-loop-number
invariant-loop-number l = l.copied ≡ take l.number-index l.numbers
