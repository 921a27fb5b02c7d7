use Rattle.std.specs.Prelude.{length}
use Rattle.larch_prove_boxes.proofs.Closing.{GoesOn}
use Rattle.larch_prove_boxes.proofs.leaving.close_extras.Given as goal

-- the boxes that are left are open still, and the line says the equation in them
abbrev pub invariant-loop-innermost : goal.invariant-loop-innermost
invariant-loop-innermost l = GoesOn l.fn.builder l.fn.extras l.fn.line l.left l.right l.builder l.rest l.said

abbrev pub decreases-loop-innermost : goal.decreases-loop-innermost
decreases-loop-innermost l = length l.rest
