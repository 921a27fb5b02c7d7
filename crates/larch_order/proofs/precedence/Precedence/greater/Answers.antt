-- What the comparison tells is the ordering.
use Rattle.std.proofs.Common.{◌∙◌, ap}
use Rattle.larch_order.specs.Greater.{is_above}
use Rattle.larch_order.proofs.Comparing.{above_is_greater}
use Rattle.larch_order.proofs.Computed.{greater_told}
use Rattle.larch_order.proofs.precedence.Precedence.greater.Goals as goal

pub returns-clause-ordering : goal.returns-clause-ordering
returns-clause-ordering c =
    greater_told c.args.self.now c.args.left.now c.args.right.now c.is_above.result
    (c.is_above.ensures ∙ ap is_above c.compare.ensures
    ∙ above_is_greater c.args.self.now c.args.left.now c.args.right.now)
