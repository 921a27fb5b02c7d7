use Rattle.std.proofs.Common.{◌≡◌, take}
use Rattle.larch_derive.proofs.copying.copy_variables.Given as goal

-- the variables so far are copied
abbrev pub invariant-loop-variable : goal.invariant-loop-variable
invariant-loop-variable l = l.copied ≡ take l.variable-index l.variables
