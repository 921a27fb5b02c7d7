use Rattle.std.specs.Prelude.{◌≡◌, map, take}
use Rattle.larch_prove_boxes.specs.Ends.{number_of}
use Rattle.larch_prove_boxes.proofs.lefts.numbers_of.Given as goal

-- the numbers of those so far
abbrev pub invariant-loop-left : goal.invariant-loop-left
invariant-loop-left l = l.numbers ≡ map number_of (take l.left-index l.lefts)
