use Rattle.std.proofs.Common.{◌≡◌, ◌++◌, take}
use Rattle.larch_prove_plans.specs.Planning.{names_of_operators}
use Rattle.larch_prove_resuming.proofs.planning.push_operators.Given as goal

-- the names so far
abbrev pub invariant-loop-operator : goal.invariant-loop-operator
invariant-loop-operator l =
    l.names.items ≡ l.initial.names.items ++ names_of_operators (take l.operator-index l.operators)
