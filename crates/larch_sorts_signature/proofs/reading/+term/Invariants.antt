use Rattle.std.proofs.Common.{◌≡◌, ◌+◌, ◌*◌, take, sum_by}
use Rattle.larch_term.specs.Tree.{nodes}
use Rattle.larch_sorts_signature.proofs.reading.+term.Given as goal

-- the nodes that are left
abbrev pub decreases-term_of : goal.decreases-term_of
decreases-term_of l = 2 * nodes l.reading.now

abbrev pub decreases-terms_of : goal.decreases-terms_of
decreases-terms_of l = 2 * sum_by nodes l.readings.now + 1

-- the terms so far are those of the readings
abbrev pub invariant-terms_of-loop-reading : goal.invariant-terms_of-loop-reading
invariant-terms_of-loop-reading l = l.terms.items ≡ take l.reading-index l.readings
