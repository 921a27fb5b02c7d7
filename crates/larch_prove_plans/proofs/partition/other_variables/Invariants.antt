use Rattle.std.proofs.Common.{◌≡◌, ◌+◌, ◌++◌, drop, map}
use Rattle.larch_prove_meaning.specs.Plans.{a_variable, other_sorts}
use Rattle.larch_prove_plans.proofs.partition.other_variables.Given as goal

-- the variables so far, before those for the places that are left
abbrev pub invariant-loop-i : goal.invariant-loop-i
invariant-loop-i l =
    l.variables ++ map a_variable (other_sorts (l.index + 1) (l.i + 1) (drop l.i l.sorts))
    ≡ map a_variable (other_sorts (l.index + 1) 1 l.sorts)
