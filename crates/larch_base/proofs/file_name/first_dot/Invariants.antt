use Rattle.std.proofs.Common.{◌≡◌, ℕ, ◌<◌, false, get_or}
use Rattle.larch_base.specs.FileName.{is_dot}
use Rattle.larch_base.proofs.file_name.first_dot.Given as goal

-- no dot stands before the place
abbrev pub invariant-loop-place : goal.invariant-loop-place
invariant-loop-place l = (k : ℕ) → k < l.place → is_dot (get_or l.bytes k 0) ≡ false
