use Rattle.std.specs.Prelude.{◌≡◌, map, take}
use Rattle.larch_prove_boxes.specs.Leave.{left_of}
use Rattle.larch_prove_boxes.proofs.lefts.boxes_of.Given as goal
use Rattle.larch_prove_invariant.specs.Book.{InBox}

-- the boxes of those so far
abbrev pub invariant-loop-left : goal.invariant-loop-left
invariant-loop-left l = map left_of (take l.left-index l.lefts) ≡ map InBox l.boxes
