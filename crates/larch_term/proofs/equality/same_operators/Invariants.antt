use Rattle.std.proofs.Common.{◌≡◌, take}
use Rattle.larch_term.proofs.equality.same_operators.Given as goal

-- what was compared so far is equal
abbrev pub invariant-loop-i : goal.invariant-loop-i
invariant-loop-i l = take l.i l.left ≡ take l.i l.right
