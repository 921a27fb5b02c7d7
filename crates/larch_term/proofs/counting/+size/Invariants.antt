use Rattle.std.proofs.Common.{◌≡◌, ◌^◌, ◌-◌, min, ◌+◌, ◌<◌, drop}
use Rattle.larch_term.specs.Tree.{nodes_all, forest_of}
use Rattle.larch_term.proofs.counting.+size.Given as goal

-- what is counted and the nodes that are left are all nodes
abbrev pub invariant-size_of_all-loop-term : goal.invariant-size_of_all-loop-term
invariant-size_of_all-loop-term l =
    (min (l.total + nodes_all (forest_of (drop l.term-index l.term-items))) (2 ^ 64 - 1)
    ≡ min (nodes_all (forest_of l.term-items)) (2 ^ 64 - 1)) × (l.total < 2 ^ 64)
