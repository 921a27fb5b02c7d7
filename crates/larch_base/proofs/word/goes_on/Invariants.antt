use Rattle.std.proofs.Common.{◌≡◌, length}
use Rattle.larch_base.specs.Word.{goes_on}
use Rattle.larch_base.proofs.word.goes_on.Given as goal

-- what is left goes on exactly where all does
abbrev pub invariant-loop-rest : goal.invariant-loop-rest
invariant-loop-rest l = goes_on l.rest ≡ goes_on l.bytes

abbrev pub decreases-loop-rest : goal.decreases-loop-rest
decreases-loop-rest l = length l.rest
