use Rattle.std.proofs.Common.{◌≡◌, ◌+◌, ◌*◌, ◌++◌, drop, sum_by}
use Rattle.larch_term.specs.Tree.{forest_of, nodes}
use Rattle.larch_prove_invariant.specs.Unopened.{operators_in_all, unopened_of}
use Rattle.larch_prove_boxes.proofs.to_open.+add_constants.Given as goal

-- the constants of the terms that are left, put behind those that are found, are all
abbrev pub invariant-add_all_constants-loop-term : goal.invariant-add_all_constants-loop-term
invariant-add_all_constants-loop-term l =
    l.found ++ unopened_of l.block (l.opened ++ l.found) (operators_in_all (forest_of (drop l.term-index l.term-items)))
    ≡ l.initial.found
    ++ unopened_of l.block (l.opened ++ l.initial.found) (operators_in_all (forest_of l.term-items))

-- a term has more nodes than its arguments together
abbrev pub decreases-add_constants : goal.decreases-add_constants
decreases-add_constants l = 2 * nodes l.term.now

abbrev pub decreases-add_all_constants : goal.decreases-add_all_constants
decreases-add_all_constants l = 2 * sum_by nodes l.terms.now + 1
