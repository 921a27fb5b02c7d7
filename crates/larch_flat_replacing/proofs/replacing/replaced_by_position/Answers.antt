use Rattle.std.proofs.Common.{sym, ◌∙◌}
use Rattle.larch_flat_replacing.proofs.Steps.{none_left}
use Rattle.larch_flat_replacing.proofs.replacing.replaced_by_position.Goals as goal

pub returns : goal.returns
returns c =
    sym c.loop-actual.invariant
    ∙ none_left c.args.names.now c.loop-actual.left.now c.args.actuals.now c.loop-actual.actual-index c.loop-actual.by
    c.loop-actual-test.false
