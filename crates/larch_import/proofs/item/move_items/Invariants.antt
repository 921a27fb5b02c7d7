use Rattle.std.proofs.Common.{◌≡◌, map, take}
use Rattle.larch_import.specs.ByWords.{move_of}
use Rattle.larch_import.proofs.item.move_items.Given as goal

-- the items so far are moved
abbrev pub invariant-loop-item : goal.invariant-loop-item
invariant-loop-item g l = l.moved ≡ map (g.T.Item.moves (move_of l.words)) (take l.item-index l.items)
