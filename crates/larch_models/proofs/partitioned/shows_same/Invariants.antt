use Rattle.std.proofs.Common.{◌≡◌, true, take}
use Rattle.std.specs.List.{list_all}
use Rattle.larch_models.specs.Clauses.{plain_operation, shows_same_by}
use Rattle.larch_models.proofs.partitioned.shows_same.Given as goal

abbrev pub invariant-loop-operation : goal.invariant-loop-operation
invariant-loop-operation l =
    list_all (λ o. shows_same_by l.first l.second (plain_operation o)) (take l.operation-index l.operations) ≡ true
