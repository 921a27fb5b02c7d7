use Rattle.std.proofs.Common.{◌≤◌, ◌<◌, All, length, take}
use Rattle.larch_methods.proofs.naming.longer.Given as goal

-- the number is above the lengths so far
abbrev pub invariant-loop-variable : goal.invariant-loop-variable
invariant-loop-variable l =
    (l.letters ≤ l.above) × All (λ v. length v.name < l.above) (take l.variable-index l.variables)
