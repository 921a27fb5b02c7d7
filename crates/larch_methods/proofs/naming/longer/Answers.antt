use Rattle.std.proofs.Common.{arith}
use Rattle.larch_methods.proofs.Lengths.{longer_all, longer_more}
use Rattle.larch_methods.proofs.naming.longer.Goals as goal

pub loop-variable-preserved : goal.loop-variable-preserved
loop-variable-preserved c = (
  omega (arith, c.loop-variable.invariant.0, c.in_ok-above.ensures.0),
  longer_more c.args.variables.now c.loop-variable.variable-index c.loop-variable.above c.in_ok-above.above
      c.variable-item.result c.bytes.result.now c.loop-variable-test.true c.variable-item.is c.bytes.ensures
      c.in_ok-above.ensures.0 c.in_ok-above.ensures.1 c.loop-variable.invariant.1,
)

pub returns-clause-above : goal.returns-clause-above
returns-clause-above c =
    longer_all c.args.variables.now c.loop-variable.variable-index c.loop-variable.above
    (omega (arith, c.loop-variable-test.false)) c.loop-variable.invariant.1
