use Rattle.std.proofs.Common.{◌≡◌, true, take}
use Rattle.std.specs.List.{list_all}
use Rattle.larch_models.specs.Clauses.{is_unmade_by, plain_operation}
use Rattle.larch_models.proofs.generated.is_made.Given as goal

abbrev pub invariant-loop-operation : goal.invariant-loop-operation
invariant-loop-operation l =
    list_all (λ o. is_unmade_by l.made l.value (plain_operation o)) (take l.operation-index l.operations) ≡ true
