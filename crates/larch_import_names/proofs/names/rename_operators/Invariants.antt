use Rattle.std.proofs.Common.{◌≡◌, map, take}
use Rattle.larch_import_names.specs.Names.{operator_by, sort_or}
use Rattle.larch_import_names.proofs.names.rename_operators.Given as goal

-- the operators so far are new
abbrev pub invariant-loop-operator : goal.invariant-loop-operator
invariant-loop-operator l =
    l.new ≡ map (operator_by (sort_or (λ s. s) l.by) l.by) (take l.operator-index l.operators)
