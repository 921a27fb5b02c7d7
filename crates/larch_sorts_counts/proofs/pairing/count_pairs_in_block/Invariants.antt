use Rattle.std.proofs.Common.{◌≡◌}
use Rattle.larch_sorts_counts.specs.Count.{sum_to, together}
use Rattle.larch_sorts_counts.proofs.pairing.count_pairs_in_block.Given as goal

-- what is paired so far is counted
abbrev pub invariant-loop-i : goal.invariant-loop-i
invariant-loop-i l = l.total ≡ sum_to (together l.left l.right) l.i
