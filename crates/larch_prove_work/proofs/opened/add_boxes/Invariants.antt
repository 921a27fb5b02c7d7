use Rattle.std.proofs.Common.{◌≡◌, ◌++◌, take}
use Rattle.larch_prove_work.proofs.opened.add_boxes.Given as goal
use Rattle.larch_prove_work.specs.Opened.{constants_in_boxes}

-- the constants of the boxes so far
abbrev pub invariant-loop-open_box : goal.invariant-loop-open_box
invariant-loop-open_box l =
    l.found ≡ l.initial.found ++ constants_in_boxes (take l.open_box-index l.boxes)
