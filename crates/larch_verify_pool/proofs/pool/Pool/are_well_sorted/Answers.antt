use Rattle.std.proofs.Common.{rules, arith}
use Rattle.larch_verify_pool.proofs.Fitting.{sorted_all, sorted_at}
use Rattle.larch_verify_pool.proofs.pool.Pool.are_well_sorted.Goals as goal

pub returns : goal.returns
returns c = (
  λ t. sorted_all c.args.self.now.trees c.args.arguments.now (λ k lt. c.loop-i.invariant k (omega arith)),
  λ w. search rules,
)

pub returns-then-not-is_well_sorted : goal.returns-then-not-is_well_sorted
returns-then-not-is_well_sorted c = (
  λ t. absurd (grind arith),
  λ w. c.if-not-is_well_sorted.ensures.1
      (sorted_at c.args.self.now.trees c.args.arguments.now c.loop-i.i c.loop-i-test.true w),
)
