use Rattle.std.proofs.Common.{◌≡◌, take}
use Rattle.larch_prove_levels.proofs.level.copy_all_left.Given as goal

-- so many are copied
abbrev pub invariant-loop-one : goal.invariant-loop-one
invariant-loop-one l = l.copies ≡ take l.one-index l.left
