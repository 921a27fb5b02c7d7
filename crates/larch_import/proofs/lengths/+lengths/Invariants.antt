use Rattle.std.proofs.Common.{◌≡◌, ◌+◌, ◌*◌, sum_by, take}
use Rattle.std.specs.Prelude.{fold}
use Rattle.larch_term.specs.Tree.{nodes}
use Rattle.larch_import_meaning.specs.Lengths.{with_term}
use Rattle.larch_import.proofs.lengths.+lengths.Given as goal

-- so far
abbrev pub invariant-with_terms-loop-term : goal.invariant-with_terms-loop-term
invariant-with_terms-loop-term l = l.most ≡ fold with_term l.fn.most (take l.term-index l.term-items)

-- a term has more nodes than its arguments together
abbrev pub decreases-with_term : goal.decreases-with_term
decreases-with_term l = 2 * nodes l.term.now

abbrev pub decreases-with_terms : goal.decreases-with_terms
decreases-with_terms l = 2 * sum_by nodes l.terms.now + 1
