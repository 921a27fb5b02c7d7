use Rattle.larch_prove_plans.proofs.Steps.{entries_end}
use Rattle.larch_prove_plans.proofs.closing.constants_for.Goals as goal

-- src/closing.rt:78:13
pub returns-then-i-constants : goal.returns-then-i-constants
returns-then-i-constants c =
    entries_end c.args.variables.now c.args.constants.now c.loop-i.i c.loop-i.entries _ c.if-i-constants.true
    c.loop-i.invariant
