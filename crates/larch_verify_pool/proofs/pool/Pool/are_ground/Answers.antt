use Rattle.std.proofs.Common.{rules, arith}
use Rattle.larch_verify_pool.proofs.Ground.{ground_all, ground_at}
use Rattle.larch_verify_pool.proofs.pool.Pool.are_ground.Goals as goal

pub returns : goal.returns
returns c = (
  λ t. ground_all c.args.self.now.trees c.args.arguments.now (λ k lt. c.loop-i.invariant k (omega arith)),
  λ w. search rules,
)

pub returns-then-not-is_ground : goal.returns-then-not-is_ground
returns-then-not-is_ground c = (
  λ t. absurd (grind arith),
  λ w. c.if-not-is_ground.ensures.1
      (ground_at c.args.self.now.trees c.args.arguments.now c.loop-i.i c.loop-i-test.true w),
)
