use Rattle.std.proofs.Common.{◌≡◌, length}
use Rattle.larch_syntax_heads.specs.Outcome.{hand_over}
use Rattle.larch_syntax.proofs.hand.hand.Given as goal

-- what is handed on comes to what was handed first
abbrev pub invariant-loop-frame : goal.invariant-loop-frame
invariant-loop-frame l =
    hand_over l.term l.stack l.terminal ≡ hand_over l.initial.term l.initial.stack l.initial.terminal

abbrev pub decreases-loop-frame : goal.decreases-loop-frame
decreases-loop-frame l = length l.stack
