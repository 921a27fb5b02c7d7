use Rattle.std.proofs.Common.{◌≡◌, ◌*◌, ◌+◌, ◌++◌, drop, map, sum_by}
use Rattle.larch_term.specs.Tree.{forest_of, nodes}
use Rattle.larch_pairs_critical.specs.Pairs.{inner_places_from}
use Rattle.larch_pairs_critical.proofs.inner.+places.Given as goal

abbrev pub decreases-add_places : goal.decreases-add_places
decreases-add_places l = 2 * nodes l.term.now

abbrev pub decreases-add_argument_places : goal.decreases-add_argument_places
decreases-add_argument_places l = 2 * sum_by nodes l.terms.now + 1

-- the places so far and those of the arguments that are left are all
abbrev pub invariant-add_argument_places-loop-i : goal.invariant-add_argument_places-loop-i
invariant-add_argument_places-loop-i l =
    l.found ++ map (λ p. l.above ++ p) (inner_places_from l.i (forest_of (drop l.i l.terms)))
    ≡ l.initial.found ++ map (λ p. l.above ++ p) (inner_places_from 0 (forest_of l.terms))
