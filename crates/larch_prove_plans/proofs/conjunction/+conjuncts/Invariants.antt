use Rattle.std.proofs.Common.{◌≡◌, ◌++◌, drop, ◌*◌, ◌+◌}
use Rattle.std.specs.Prelude.{sum_by}
use Rattle.larch_prove_meaning.specs.Plans.{conjuncts_in}
use Rattle.larch_term.specs.Tree.{forest_of, nodes}
use Rattle.larch_prove_plans.proofs.conjunction.+conjuncts.Given as goal

abbrev pub decreases-add_conjuncts : goal.decreases-add_conjuncts
decreases-add_conjuncts l = 2 * nodes l.term.now

abbrev pub decreases-add_all_conjuncts : goal.decreases-add_all_conjuncts
decreases-add_all_conjuncts l = 2 * sum_by nodes l.terms.now + 1

-- the conjuncts so far, before those of the terms that are left
abbrev pub invariant-add_all_conjuncts-loop-term : goal.invariant-add_all_conjuncts-loop-term
invariant-add_all_conjuncts-loop-term l =
    l.found.items ++ conjuncts_in (forest_of (drop l.term-index l.terms))
    ≡ l.initial.found.items ++ conjuncts_in (forest_of l.terms)
