use Rattle.std.proofs.Common.{ℕ, ◌<◌}
use Rattle.larch_verify_pool.proofs.Ground.{GroundAt}
use Rattle.larch_verify_pool.proofs.pool.Pool.are_ground.Given as goal

abbrev pub invariant-loop-i : goal.invariant-loop-i
invariant-loop-i l = (k : ℕ) → k < l.i → GroundAt l.self.trees l.arguments k
