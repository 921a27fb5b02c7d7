use Rattle.std.proofs.Common.{◌≡◌, take, map}
use Rattle.larch_shorthand.proofs.operators.sorts_of.Given as goal

-- the sorts so far
abbrev pub invariant-loop-sort : goal.invariant-loop-sort
invariant-loop-sort l = l.copies ≡ map (λ s. s.now) (take l.sort-index l.sorts)
