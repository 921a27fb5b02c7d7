use Rattle.std.proofs.Common.{◌≡◌, map, take}
use Rattle.larch_trim.specs.ByNumbers.{number_at}
use Rattle.larch_trim.proofs.item.move_numbers.Given as goal

-- the numbers so far are the new ones
abbrev pub invariant-loop-number : goal.invariant-loop-number
invariant-loop-number l = l.moved ≡ map (number_at l.numbers) (take l.number-index l.named)
