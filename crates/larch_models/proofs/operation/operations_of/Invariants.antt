use Rattle.std.proofs.Common.{◌≡◌, take}
use Rattle.std.specs.Prelude.{map}
use Rattle.larch_models_meaning.specs.FiniteModel.{interpretation_of}
use Rattle.larch_models.specs.Clauses.{operation_at, plain_operation}
use Rattle.larch_models.proofs.operation.operations_of.Given as goal

abbrev pub invariant-loop-operator : goal.invariant-loop-operator
invariant-loop-operator l =
    map plain_operation l.found
    ≡ map (operation_at (interpretation_of l.model) l.sort) (take l.operator-index l.operators)
