use Rattle.std.proofs.Common.{◌≡◌, ◌*◌, ◌+◌, drop, sum_by}
use Rattle.std.specs.List.{list_any}
use Rattle.larch_term.specs.Tree.{forest_of, nodes}
use Rattle.larch_term.specs.Variable.{occurrences_in, same_variable}
use Rattle.larch_pairs.proofs.demand.+occurs.Given as goal

abbrev pub decreases-occurs : goal.decreases-occurs
decreases-occurs l = 2 * nodes l.term.now

abbrev pub decreases-occurs_in : goal.decreases-occurs_in
decreases-occurs_in l = 2 * sum_by nodes l.terms.now + 1

-- it doesn't occur in the terms so far
abbrev pub invariant-occurs_in-loop-term : goal.invariant-occurs_in-loop-term
invariant-occurs_in-loop-term l =
    list_any (same_variable (record { name = l.name; sort = l.sort }))
    (occurrences_in (forest_of (drop l.term-index l.terms)))
    ≡ list_any (same_variable (record { name = l.name; sort = l.sort })) (occurrences_in (forest_of l.terms))
