use Rattle.std.proofs.Common.{◌≡◌, take}
use Rattle.larch_trim_meaning.specs.Trimmed.{kept_lines}
use Rattle.larch_trim.proofs.trimming.keep_lines.Given as goal

-- of the lines so far those with marks are kept
abbrev pub invariant-loop-i : goal.invariant-loop-i
invariant-loop-i l = l.left ≡ kept_lines l.marks (take l.i l.lines)
