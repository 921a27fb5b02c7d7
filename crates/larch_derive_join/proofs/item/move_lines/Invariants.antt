use Rattle.std.proofs.Common.{◌≡◌, map, take}
use Rattle.larch_derive_join.specs.ByShift.{move_of}
use Rattle.larch_derive_join.proofs.item.move_lines.Given as goal

-- the numbers so far are moved
abbrev pub invariant-loop-number : goal.invariant-loop-number
invariant-loop-number l = l.moved ≡ map (move_of l.shift).line (take l.number-index l.lines)
