use Rattle.std.proofs.Common.{◌≡◌, map, take}
use Rattle.larch_methods.specs.Inside.{written_variable}
use Rattle.larch_methods.proofs.boxes.coded_variables.Given as goal

-- the variables so far are written
abbrev pub invariant-loop-variable : goal.invariant-loop-variable
invariant-loop-variable l = l.coded ≡ map written_variable (take l.variable-index l.variables)
