use Rattle.std.proofs.Common.{◌≡◌, ◌+◌, drop}
use Rattle.larch_models.specs.Clauses.{plain_operation, shows_from}
use Rattle.larch_models.proofs.partitioned.shows_same_by.Given as goal

abbrev pub invariant-loop-i : goal.invariant-loop-i
invariant-loop-i l =
    shows_from (plain_operation l.operation) l.first l.second (l.i + 1) (drop l.i l.own)
    ≡ shows_from (plain_operation l.operation) l.first l.second 1 l.own
