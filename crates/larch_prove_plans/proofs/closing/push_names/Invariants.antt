use Rattle.std.proofs.Common.{◌≡◌, ◌++◌, map, take}
use Rattle.larch_prove_plans.proofs.closing.push_names.Given as goal

-- the names so far
abbrev pub invariant-loop-variable : goal.invariant-loop-variable
invariant-loop-variable l =
    l.names.items ≡ l.initial.names.items ++ map (λ v. v.name) (take l.variable-index l.variables)
