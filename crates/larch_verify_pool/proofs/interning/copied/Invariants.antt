use Rattle.std.proofs.Common.{◌≡◌, take}
use Rattle.larch_verify_pool.proofs.interning.copied.Given as goal

abbrev pub invariant-loop-sort : goal.invariant-loop-sort
invariant-loop-sort l = l.copied.items ≡ take l.sort-index l.sorts
