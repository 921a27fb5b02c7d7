use Rattle.std.proofs.Common.{◌≡◌, ◌+◌, ◌≤◌, length}
use Rattle.larch_script.specs.Draft.{whole}
use Rattle.larch_script.specs.Scripts.{lines_of, script_from}
use Rattle.larch_script.proofs.read.read_script.Given as goal

-- the lines so far and those that are left are the script
abbrev pub invariant-lines : goal.invariant-lines
invariant-lines l = record {
  same : whole l.draft (script_from l.number (lines_of l.rest)) ≡ script_from 1 (lines_of l.text);
  within : length l.rest ≤ length l.text;
  counted : l.number + length l.rest ≤ length l.text + 1;
}

abbrev pub decreases-lines : goal.decreases-lines
decreases-lines l = length l.rest
