use Rattle.std.proofs.Common.{◌≡◌, ◌+◌, ◌*◌, List, drop, map, sum_by, take}
use Rattle.larch_sorts_meaning.specs.RawRawTree.{raw_forest, raw_nodes}
use Rattle.larch_sorts_meaning.specs.TermOperator.{PlainOperator}
use Rattle.larch_sorts_counts.specs.Counted.{counts_in}
use Rattle.larch_sorts_counts.specs.Counts.{AllCounts}
use Rattle.larch_sorts_counts.specs.Numbers.{AreNumbers}
use Rattle.larch_sorts_meaning.specs.Parts.{parts_of}
use Rattle.larch_sorts_meaning.specs.Read.{unread_in}
use Rattle.larch_sorts_meaning.specs.Signature.{taking_part}
use Rattle.larch_sorts_counts.proofs.counts.+counts.Given as goal

-- the nodes that are left
abbrev pub decreases-counts_of : goal.decreases-counts_of
decreases-counts_of l = 4 * raw_nodes l.raw.now + 1

abbrev pub decreases-counts_from_parts : goal.decreases-counts_from_parts
decreases-counts_from_parts l = 4 * raw_nodes l.raw.now

abbrev pub decreases-counts_of_all : goal.decreases-counts_of_all
decreases-counts_of_all l = 4 * sum_by raw_nodes l.arguments.now + 2

-- the counts so far are those of the arguments so far, and each of these has a reading
abbrev pub invariant-counts_of_all-loop-argument : goal.invariant-counts_of_all-loop-argument
invariant-counts_of_all-loop-argument l =
    AllCounts l.numbers l.scope (take l.argument-index l.argument-items) (map counts_in l.all)
    × ((fs : List PlainOperator) → AreNumbers l.numbers (taking_part fs)
    → unread_in fs l.scope (parts_of (raw_forest (drop l.argument-index l.argument-items)))
    ≡ unread_in fs l.scope (parts_of (raw_forest l.arguments)))
