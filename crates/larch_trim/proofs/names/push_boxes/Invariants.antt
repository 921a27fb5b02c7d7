use Rattle.std.proofs.Common.{◌≡◌, ◌++◌}
use Rattle.larch_trim.specs.Collecting.{boxes_to_come, steps_to_come}
use Rattle.larch_trim_meaning.specs.Needed.{boxes_in}
use Rattle.larch_trim.proofs.names.push_boxes.Given as goal

-- with those to come, the boxes are the term's
abbrev pub invariant-terms : goal.invariant-terms
invariant-terms l = l.named ++ boxes_to_come l.waiting ≡ l.fn.named ++ boxes_in l.term

abbrev pub decreases-terms : goal.decreases-terms
decreases-terms l = steps_to_come l.waiting
