use Rattle.std.proofs.Common.{take}
use Rattle.larch_prove_boxes.proofs.Extras.{AreOpenSoFar}
use Rattle.larch_prove_boxes.proofs.constants.open_each.Given as goal

-- the boxes of the constants so far are open
abbrev pub invariant-loop-constant : goal.invariant-loop-constant
invariant-loop-constant l =
    AreOpenSoFar l.initial.builder l.builder l.constants (take l.constant-index l.constants) l.boxes
