use Rattle.std.proofs.Common.{◌≡◌, map, take}
use Rattle.larch_import.specs.ByWords.{move_of}
use Rattle.larch_import.proofs.item.move_operators.Given as goal

-- the numbers so far are the new ones
abbrev pub invariant-loop-number : goal.invariant-loop-number
invariant-loop-number l = l.moved ≡ map (move_of l.words).operator (take l.number-index l.named)
