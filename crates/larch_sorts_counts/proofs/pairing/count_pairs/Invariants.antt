use Rattle.std.proofs.Common.{◌≡◌, ◌≤◌, ◌-◌, length}
use Rattle.larch_sorts_counts.specs.Count.{sum_to, together}
use Rattle.larch_sorts_counts.proofs.pairing.count_pairs.Given as goal

-- what is paired before the next place is counted
abbrev pub invariant-loop-place : goal.invariant-loop-place
invariant-loop-place l = (l.total ≡ sum_to (together l.left l.right) l.place) × (l.place ≤ length l.left)

abbrev pub decreases-loop-place : goal.decreases-loop-place
decreases-loop-place l = length l.left - l.place
