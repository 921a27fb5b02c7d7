use Rattle.larch_syntax.proofs.AtEnd.{ends_so}
use Rattle.larch_syntax.proofs.step.last.Goals as goal

pub unreachable-requires : goal.unreachable-requires
unreachable-requires c = ends_so c.args.state c.in_ok-whole.field-0 c.in_ok-whole.ensures c.in_default.not-Stops
