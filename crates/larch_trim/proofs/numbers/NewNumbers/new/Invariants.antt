use Rattle.std.proofs.Common.{◌≡◌, ◌≤◌, length}
use Rattle.larch_trim_meaning.specs.Trimmed.{new_number}
use Rattle.larch_trim.proofs.Keeping.{HasNumbers}
use Rattle.larch_trim.proofs.numbers.NewNumbers.new.Given as goal

-- the table has the numbers so far
abbrev pub invariant-loop-marked : goal.invariant-loop-marked
invariant-loop-marked l = record {
  long : length l.numbers ≡ l.marked-index;
  each : HasNumbers l.marks l.numbers;
  all : l.all ≡ new_number l.marks l.marked-index;
  fits : l.all ≤ l.marked-index;
}
