use Rattle.std.proofs.Common.{◌≡◌, drop}
use Rattle.larch_trim.specs.Searching.{marks_after, waiting_after}
use Rattle.larch_trim.proofs.needed.mark_all.Given as goal

-- with the numbers to come, the marks are those of all
abbrev pub invariant-loop-number : goal.invariant-loop-number
invariant-loop-number l = record {
  marks : marks_after (drop l.number-index l.wanted) l.marks.items ≡ marks_after l.wanted l.fn.marks.items;
  waiting : waiting_after (drop l.number-index l.wanted) l.marks.items l.waiting
      ≡ waiting_after l.wanted l.fn.marks.items l.fn.waiting;
}
