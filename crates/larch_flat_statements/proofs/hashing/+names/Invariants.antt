use Rattle.std.proofs.Common.{◌≡◌, ◌+◌, ◌*◌, drop, fold, sum_by}
use Rattle.larch_term.specs.Tree.{forest_of, nodes}
use Rattle.larch_flat_statements.specs.HashInput.{forest_input}
use Rattle.larch_flat_statements.proofs.hashing.+names.Given as goal

-- what is left, after the terms so far, is hashed as all terms are
abbrev pub invariant-hash_terms-loop-term : goal.invariant-hash_terms-loop-term
invariant-hash_terms-loop-term g l =
    fold g.H.Hasher.write l.state (forest_input (forest_of (drop l.term-index l.term-items)))
    ≡ fold g.H.Hasher.write l.initial.state (forest_input (forest_of l.term-items))

abbrev pub decreases-hash_term : goal.decreases-hash_term
decreases-hash_term g l = 2 * nodes l.term.now

abbrev pub decreases-hash_terms : goal.decreases-hash_terms
decreases-hash_terms g l = 2 * sum_by nodes l.terms.now + 1
