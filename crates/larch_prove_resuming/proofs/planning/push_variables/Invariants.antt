use Rattle.std.proofs.Common.{◌≡◌, ◌++◌, map, take}
use Rattle.larch_prove_work.specs.ProveSettingsScope.{pair_of}
use Rattle.larch_prove_resuming.proofs.planning.push_variables.Given as goal

-- the names so far
abbrev pub invariant-loop-variable : goal.invariant-loop-variable
invariant-loop-variable l =
    l.names.items ≡ l.initial.names.items ++ map (λ v. v.0) (map pair_of (take l.variable-index l.variables))
