use Rattle.std.proofs.Common.{◌≡◌, ◌++◌}
use Rattle.larch_prove_work.proofs.boxes.push_boxes.Given as goal

-- the boxes so far are behind the others
abbrev pub invariant-loop-open_box : goal.invariant-loop-open_box
invariant-loop-open_box l = l.boxes ≡ l.initial.boxes ++ l.yielded
