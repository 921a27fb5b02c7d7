use Rattle.std.proofs.Common.{sym, ◌∙◌}
use Rattle.larch_models.specs.Clauses.{plain_operation, shows_same_by}
use Rattle.larch_models.proofs.Rests.{all_fails, all_pass}
use Rattle.larch_models.proofs.partitioned.shows_same.Goals as goal

pub returns-then-not-branch : goal.returns-then-not-branch
returns-then-not-branch c =
    sym (all_fails (shows_same_by c.args.first c.args.second) plain_operation c.args.operations.now
    c.loop-operation.operation-index c.operation-item.result c.loop-operation-test.true c.operation-item.is
    (sym c.in_ok-shows_same_by.ensures ∙ c.if-not-branch.true))

pub returns : goal.returns
returns c =
    sym (all_pass (shows_same_by c.args.first c.args.second) plain_operation c.args.operations.now
    c.loop-operation.operation-index c.loop-operation-test.false c.loop-operation.invariant)
