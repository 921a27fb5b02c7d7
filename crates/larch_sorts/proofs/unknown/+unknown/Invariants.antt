use Rattle.std.proofs.Common.{◌≡◌, ◌+◌, ◌*◌, drop, sum_by}
use Rattle.larch_raw.specs.RawTree.{raw_nodes, raw_forest}
use Rattle.larch_sorts_signature.specs.SortsMeaningUnknown.{unknown_among, sort_words_of}
use Rattle.larch_sorts.proofs.unknown.+unknown.Given as goal

-- the nodes that are left
abbrev pub decreases-unknown_in : goal.decreases-unknown_in
decreases-unknown_in l = 2 * raw_nodes l.raw.now

abbrev pub decreases-unknown_in_any : goal.decreases-unknown_in_any
decreases-unknown_in_any l = 2 * sum_by raw_nodes l.arguments.now + 1

-- what is unknown in the arguments that are left is so in all
abbrev pub invariant-unknown_in_any-loop-argument : goal.invariant-unknown_in_any-loop-argument
invariant-unknown_in_any-loop-argument l =
    unknown_among l.signature (sort_words_of (raw_forest (drop l.argument-index l.argument-items)))
    ≡ unknown_among l.signature (sort_words_of (raw_forest l.arguments))
