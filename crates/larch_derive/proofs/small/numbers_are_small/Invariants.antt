use Rattle.std.proofs.Common.{take}
use Rattle.larch_certificate_text.specs.Parts.{IsSmall, Each}
use Rattle.larch_derive.proofs.small.numbers_are_small.Given as goal

-- the numbers so far are
abbrev pub invariant-loop-number : goal.invariant-loop-number
invariant-loop-number l = Each IsSmall (take l.number-index l.numbers)
