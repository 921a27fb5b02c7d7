use Rattle.std.proofs.Common.{ℕ, ◌<◌}
use Rattle.larch_verify_pool.proofs.Fitting.{SortAt}
use Rattle.larch_verify_pool.proofs.pool.Pool.takes.Given as goal

abbrev pub invariant-loop-i : goal.invariant-loop-i
invariant-loop-i l = (k : ℕ) → k < l.i → SortAt l.self.trees l.arguments l.domain k
