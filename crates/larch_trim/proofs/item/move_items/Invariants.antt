use Rattle.std.proofs.Common.{◌≡◌, map, take}
use Rattle.larch_trim.specs.ByNumbers.{move_of}
use Rattle.larch_trim.proofs.item.move_items.Given as goal

-- the items so far are moved
abbrev pub invariant-loop-item : goal.invariant-loop-item
invariant-loop-item g l = l.moved ≡ map (g.T.Item.moves (move_of l.numbers)) (take l.item-index l.items)
