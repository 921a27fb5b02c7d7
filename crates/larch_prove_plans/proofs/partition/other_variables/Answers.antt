use Rattle.std.proofs.Common.{ap, ◌∙◌}
use Rattle.larch_prove_plans.proofs.Steps.{sorts_skipped}
use Rattle.std.proofs.Common.{◌+◌, map, ◌++◌}
use Rattle.larch_prove_meaning.specs.Plans.{a_variable}
use Rattle.larch_prove_plans.proofs.partition.other_variables.Goals as goal

-- src/partition.rt:101:5
pub loop-i-preserved-then-i-index : goal.loop-i-preserved-then-i-index
loop-i-preserved-then-i-index c =
    ap (λ ss. c.loop-i.variables ++ map a_variable ss) (sorts_skipped (c.args.index + 1) c.loop-i.i c.args.sorts.now
    c.loop-i-test.true (ap (λ n. n + 1) c.if-i-index.true))
    ∙ c.loop-i.invariant
