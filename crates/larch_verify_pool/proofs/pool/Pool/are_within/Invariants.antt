use Rattle.std.proofs.Common.{◌<◌, All, take, length}
use Rattle.larch_verify_pool.proofs.pool.Pool.are_within.Given as goal

abbrev pub invariant-loop-number : goal.invariant-loop-number
invariant-loop-number l = All (λ c. c < length l.self.trees) (take l.number-index l.numbers)
