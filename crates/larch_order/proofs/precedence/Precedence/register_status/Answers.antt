-- The entry at the height is that of the operator.
use Rattle.std.proofs.Common.{sym, ◌∙◌}
use Rattle.larch_order.proofs.Heights.{status_set}
use Rattle.larch_order.proofs.precedence.Precedence.register_status.Goals as goal

pub returns-clause-ok : goal.returns-clause-ok
returns-clause-ok c =
    rw c.self.view_is
    (status_set c.args.self.now c.args.operator.now c.args.status c.in-Some.height c.index_mut.result.now
    (sym c.in-Some.is ∙ c.height.ensures) (rw c.self.view_is at c.index_mut.ensures.value))
