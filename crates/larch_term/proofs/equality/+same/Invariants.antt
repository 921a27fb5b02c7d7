use Rattle.std.proofs.Common.{◌≡◌, take}
use Rattle.larch_term.proofs.equality.+same.Given as goal

-- the terms so far are equal
abbrev pub invariant-same_terms-loop-i : goal.invariant-same_terms-loop-i
invariant-same_terms-loop-i l = take l.i l.left ≡ take l.i l.right
