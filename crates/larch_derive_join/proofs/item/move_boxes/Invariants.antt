use Rattle.std.proofs.Common.{◌≡◌, map, take}
use Rattle.larch_derive_join.specs.Joined.{moved_on}
use Rattle.larch_derive_join.proofs.item.move_boxes.Given as goal

-- the numbers so far are moved
abbrev pub invariant-loop-number : goal.invariant-loop-number
invariant-loop-number l = l.moved ≡ map (moved_on l.shift.by) (take l.number-index l.boxes)
