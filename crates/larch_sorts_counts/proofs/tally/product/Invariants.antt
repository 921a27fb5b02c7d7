use Rattle.std.proofs.Common.{◌≡◌, drop, map}
use Rattle.larch_sorts_counts.specs.Counted.{counts_in}
use Rattle.larch_sorts_counts.specs.Count.{product, times}
use Rattle.larch_sorts_counts.proofs.tally.product.Given as goal

-- the product so far, with that of the numbers that are left, is all
abbrev pub invariant-loop-i : goal.invariant-loop-i
invariant-loop-i l =
    times l.product (product (drop l.i (map counts_in l.arguments)) (drop l.i l.numbers))
    ≡ product (map counts_in l.arguments) l.numbers
