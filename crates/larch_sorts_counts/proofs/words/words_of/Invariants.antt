use Rattle.larch_sorts_counts.specs.Numbers.{AreWords}
use Rattle.larch_sorts_counts.proofs.words.words_of.Given as goal

-- what is kept under a name so far are its counts
abbrev pub invariant-loop-name : goal.invariant-loop-name
invariant-loop-name l = AreWords l.size l.names.entries l.words.entries
