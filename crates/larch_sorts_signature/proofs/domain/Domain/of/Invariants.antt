use Rattle.std.proofs.Common.{◌≡◌, take}
use Rattle.larch_sorts_signature.proofs.domain.Domain.of.Given as goal

-- the sorts so far
abbrev pub invariant-loop-sort : goal.invariant-loop-sort
invariant-loop-sort l = l.copies.items ≡ take l.sort-index l.sorts
