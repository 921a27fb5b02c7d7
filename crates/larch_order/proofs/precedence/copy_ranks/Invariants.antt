use Rattle.std.proofs.Common.{◌≡◌, take}
use Rattle.larch_order.proofs.precedence.copy_ranks.Given as goal

-- what was copied so far
abbrev pub invariant-loop-rank : goal.invariant-loop-rank
invariant-loop-rank l = l.copied.items ≡ take l.rank-index l.ranks
