use Rattle.std.proofs.Common.{◌≡◌, ℕ, ◌<◌, false, get_or}
use Rattle.larch_main_session.specs.Command.{is_blank}
use Rattle.larch_main_session.proofs.command.first_blank.Given as goal

-- no blank stands before the place
abbrev pub invariant-loop-place : goal.invariant-loop-place
invariant-loop-place l = (k : ℕ) → k < l.place → is_blank (get_or l.bytes k 0) ≡ false
