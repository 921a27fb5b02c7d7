use Rattle.std.proofs.Common.{◌≡◌, map, take}
use Rattle.larch_prove_meaning.specs.Steps.{with_all_new}
use Rattle.larch_prove_settings.specs.Scope.{pair_of}
use Rattle.larch_prove_settings.proofs.scope.OrderedScope.insert_all.Given as goal

-- those so far are in scope
abbrev pub invariant-loop-variable : goal.invariant-loop-variable
invariant-loop-variable l =
    l.self ≡ with_all_new l.initial.self (map pair_of (take l.variable-index l.variables))
