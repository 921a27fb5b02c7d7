use Rattle.std.proofs.Common.{◌≡◌, take}
use Rattle.larch_prove_levels.proofs.level.copy_boxes.Given as goal

-- so many are copied
abbrev pub invariant-loop-open_box : goal.invariant-loop-open_box
invariant-loop-open_box l = l.copies ≡ take l.open_box-index l.boxes
