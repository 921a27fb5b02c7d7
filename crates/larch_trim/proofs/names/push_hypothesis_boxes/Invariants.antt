use Rattle.std.proofs.Common.{◌≡◌, ◌++◌, flat_map, take}
use Rattle.larch_trim_meaning.specs.Needed.{boxes_in_equation}
use Rattle.larch_trim.proofs.names.push_hypothesis_boxes.Given as goal

abbrev pub invariant-loop-hypothesis : goal.invariant-loop-hypothesis
invariant-loop-hypothesis l =
    l.named ≡ l.fn.named ++ flat_map boxes_in_equation (take l.hypothesis-index l.hypotheses)
