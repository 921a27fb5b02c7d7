use Rattle.std.proofs.Common.{◌≡◌, ◌++◌, drop}
use Rattle.larch_prove_meaning.specs.NewNames.{new_constants}
use Rattle.larch_prove_plans.proofs.new_names.new_constants.Given as goal

-- the constants so far, before those for the variables that are left
abbrev pub invariant-loop-variable : goal.invariant-loop-variable
invariant-loop-variable l =
    l.constants ++ new_constants l.used.items (drop l.variable-index l.variables) ≡ new_constants l.taken l.variables
