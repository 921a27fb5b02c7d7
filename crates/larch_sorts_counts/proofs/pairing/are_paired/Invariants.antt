use Rattle.std.proofs.Common.{◌≡◌, ◌<◌, ℕ, false, length}
use Rattle.larch_sorts_counts.specs.Count.{together}
use Rattle.larch_sorts_counts.specs.declared.count.Count.TheVariants.{Never}
use Rattle.larch_sorts_counts.proofs.pairing.are_paired.Given as goal

-- where nothing was found, nothing so far is paired
abbrev pub invariant-loop-left : goal.invariant-loop-left
invariant-loop-left l = l.found ≡ false → (k : ℕ) → k < length l.yielded → together l.left l.right k ≡ Never
