use Rattle.std.proofs.Common.{◌≡◌, drop}
use Rattle.larch_pairs.specs.Demand.{first_demand}
use Rattle.larch_pairs.proofs.demand.first_demand.Given as goal

-- the equations so far ask for nothing
abbrev pub invariant-loop-i : goal.invariant-loop-i
invariant-loop-i l = first_demand (drop l.i l.equations.items) ≡ first_demand l.equations.items
