use Rattle.std.proofs.Common.{◌≡◌, ◌+◌, ◌≤◌, length}
use Rattle.larch_script.specs.Scripts.{line_length}
use Rattle.larch_script.proofs.read.line_length.Given as goal

-- the bytes so far and those that are left make up the line
abbrev pub invariant-loop-rest : goal.invariant-loop-rest
invariant-loop-rest l = record {
  same : l.length + line_length l.rest ≡ line_length l.text;
  within : l.length + length l.rest ≤ length l.text;
}

abbrev pub decreases-loop-rest : goal.decreases-loop-rest
decreases-loop-rest l = length l.rest
