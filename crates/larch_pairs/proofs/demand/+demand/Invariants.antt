use Rattle.std.proofs.Common.{◌≡◌, ◌*◌, ◌+◌, drop, sum_by}
use Rattle.larch_term.specs.Tree.{forest_of, nodes}
use Rattle.larch_pairs.specs.Demand.{demand_all}
use Rattle.larch_pairs.proofs.demand.+demand.Given as goal

abbrev pub decreases-demand_of : goal.decreases-demand_of
decreases-demand_of l = 2 * nodes l.left.now

abbrev pub decreases-demand_of_all : goal.decreases-demand_of_all
decreases-demand_of_all l = 2 * sum_by nodes l.terms.now + 1

-- the equations so far ask for nothing
abbrev pub invariant-demand_of_all-loop-i : goal.invariant-demand_of_all-loop-i
invariant-demand_of_all-loop-i l =
    demand_all (forest_of (drop l.i l.terms)) (forest_of (drop l.i l.others))
    ≡ demand_all (forest_of l.terms) (forest_of l.others)
