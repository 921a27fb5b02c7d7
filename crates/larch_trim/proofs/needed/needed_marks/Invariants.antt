use Rattle.std.proofs.Common.{◌+◌, ◌-◌, length}
use Rattle.larch_trim_law.proofs.Marks.{count_marks}
use Rattle.larch_trim_meaning.specs.Needed.{needs}
use Rattle.larch_trim.specs.Searching.{Searching}
use Rattle.larch_trim.proofs.needed.needed_marks.Given as goal

abbrev pub invariant-lines : goal.invariant-lines
invariant-lines l = Searching (needs l.lines) (length l.lines) l.marks.items l.waiting

abbrev pub decreases-lines : goal.decreases-lines
decreases-lines l = length l.lines - count_marks l.marks.items + length l.waiting
