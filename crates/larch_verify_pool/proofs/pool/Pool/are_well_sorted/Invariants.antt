use Rattle.std.proofs.Common.{ℕ, ◌<◌}
use Rattle.larch_verify_pool.proofs.Fitting.{SortedAt}
use Rattle.larch_verify_pool.proofs.pool.Pool.are_well_sorted.Given as goal

abbrev pub invariant-loop-i : goal.invariant-loop-i
invariant-loop-i l = (k : ℕ) → k < l.i → SortedAt l.self.trees l.arguments k
