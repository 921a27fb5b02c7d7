use Rattle.std.proofs.Common.{◌≡◌, take}
use Rattle.larch_session_kept.proofs.alike.same_lemmas.Given as goal
use Rattle.larch_session_trail.specs.ProveOpeningStating.{duties_of}

-- the lemmas so far are equal
abbrev pub invariant-loop-i : goal.invariant-loop-i
invariant-loop-i l = duties_of (take l.i l.left) ≡ duties_of (take l.i l.right)
