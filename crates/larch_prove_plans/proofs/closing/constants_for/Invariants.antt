use Rattle.std.proofs.Common.{◌≡◌, ◌++◌, drop}
use Rattle.larch_calculus.specs.Freed.{constants_for}
use Rattle.larch_prove_plans.proofs.closing.constants_for.Given as goal

-- the entries so far, before those for the variables that are left
abbrev pub invariant-loop-i : goal.invariant-loop-i
invariant-loop-i l =
    l.entries ++ constants_for (drop l.i l.variables) (drop l.i l.constants) ≡ constants_for l.variables l.constants
