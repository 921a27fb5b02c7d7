use Rattle.std.proofs.Common.{◌≡◌, ◌+◌, ◌*◌, drop, sum_by}
use Rattle.larch_term.specs.Tree.{forest_of, nodes}
use Rattle.larch_duties_meaning.specs.Conversions.{have_one_of}
use Rattle.larch_duties.proofs.standing.+standing.Given as goal

-- what is left is answered as all terms are
abbrev pub invariant-have_one_of-loop-term : goal.invariant-have_one_of-loop-term
invariant-have_one_of-loop-term l =
    have_one_of l.among (forest_of (drop l.term-index l.term-items)) ≡ have_one_of l.among (forest_of l.term-items)

-- a term has more nodes than its arguments together
abbrev pub decreases-has_one_of : goal.decreases-has_one_of
decreases-has_one_of l = 2 * nodes l.term.now

abbrev pub decreases-have_one_of : goal.decreases-have_one_of
decreases-have_one_of l = 2 * sum_by nodes l.terms.now + 1
