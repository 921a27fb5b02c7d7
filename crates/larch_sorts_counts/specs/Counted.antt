-- What was counted of a term.
use Rattle.std.specs.Prelude.{List}
use Rattle.larch_sorts_counts.specs.declared.count.Count.{Count}
use Rattle.larch_sorts_counts.specs.declared.counts.Counted.{Counted, out-Counted}

-- how often it reads at the sort of each number
abbrev pub counts_in : Counted → List Count
counts_in c = (out-Counted c).counts
