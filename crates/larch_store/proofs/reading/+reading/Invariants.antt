use Rattle.std.proofs.Common.{◌≡◌, ◌+◌, ◌*◌, map, take, sum_by}
use Rattle.larch_term.specs.Tree.{nodes}
use Rattle.larch_store.specs.Numbered.{term_of}
use Rattle.larch_store.proofs.reading.+reading.Given as goal

abbrev pub decreases-term_from : goal.decreases-term_from
decreases-term_from l = 2 * nodes (term_of l.shared.now)

abbrev pub decreases-terms_from : goal.decreases-terms_from
decreases-terms_from l = 2 * sum_by (λ x. nodes (term_of x)) l.list.now + 1

abbrev pub invariant-terms_from-loop-shared : goal.invariant-terms_from-loop-shared
invariant-terms_from-loop-shared l = l.terms.items ≡ map term_of (take l.shared-index l.list)
