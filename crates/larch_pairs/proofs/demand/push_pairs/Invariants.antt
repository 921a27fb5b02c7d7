use Rattle.std.proofs.Common.{◌≡◌, ◌++◌, drop}
use Rattle.larch_term.specs.Tree.{forest_of}
use Rattle.larch_pairs.specs.Demand.{pairs_of}
use Rattle.larch_pairs.proofs.demand.push_pairs.Given as goal

-- the equations so far and those that are left are all
abbrev pub invariant-loop-i : goal.invariant-loop-i
invariant-loop-i l =
    l.equations ++ pairs_of (forest_of (drop l.i l.terms)) (forest_of (drop l.i l.others))
    ≡ l.initial.equations ++ pairs_of (forest_of l.terms) (forest_of l.others)
