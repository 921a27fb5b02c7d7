use Rattle.std.proofs.Common.{sym, ◌∙◌, ap}
use Rattle.std.specs.Prelude.{not}
use Rattle.larch_models.specs.Clauses.{is_unmade_by, plain_operation}
use Rattle.larch_models.proofs.Rests.{all_fails, all_pass}
use Rattle.larch_models.proofs.generated.is_made.Goals as goal

pub returns-then-not-branch : goal.returns-then-not-branch
returns-then-not-branch c =
    sym (ap not (all_fails (is_unmade_by c.args.made.now c.args.value) plain_operation c.args.operations.now
    c.loop-operation.operation-index c.operation-item.result c.loop-operation-test.true c.operation-item.is
    (sym c.in_ok-is_unmade.ensures ∙ c.if-not-branch.true)))

pub returns : goal.returns
returns c =
    sym (ap not (all_pass (is_unmade_by c.args.made.now c.args.value) plain_operation c.args.operations.now
    c.loop-operation.operation-index c.loop-operation-test.false c.loop-operation.invariant))
