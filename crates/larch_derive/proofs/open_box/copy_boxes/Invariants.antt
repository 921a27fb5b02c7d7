use Rattle.std.proofs.Common.{◌≡◌, take}
use Rattle.larch_derive.proofs.open_box.copy_boxes.Given as goal

-- the boxes so far are copied
abbrev pub invariant-loop-open_box : goal.invariant-loop-open_box
invariant-loop-open_box l = l.copies ≡ take l.open_box-index l.boxes
