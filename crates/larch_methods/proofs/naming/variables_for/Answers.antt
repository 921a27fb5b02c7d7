use Rattle.std.specs.Prelude.{◌++◌, map}
use Rattle.std.proofs.Common.{ap, arith, drop, ◌+◌, ◌∙◌}
use Rattle.larch_methods.specs.Inside.{written_variable}
use Rattle.larch_methods.specs.Observers.{variables_for}
use Rattle.larch_methods.proofs.Lengths.{variables_all, variables_next}
use Rattle.larch_methods.proofs.naming.variables_for.Goals as goal

pub loop-constant-preserved : goal.loop-constant-preserved
loop-constant-preserved c =
    ap (λ vs. vs ++ map written_variable
    (variables_for c.in_ok-next.next (drop (c.loop-constant.constant-index + 1) c.args.constants.now)))
    c.in_ok-push.ensures.ok
    ∙ variables_next c.loop-constant.coded c.loop-constant.next c.in_ok-next.next c.loop-constant.constant-index
    c.args.constants.now c.constant-item.result c.in_ok-variable.variable
    (map written_variable (variables_for c.args.letters c.args.constants.now)) c.loop-constant-test.true
    c.constant-item.is c.in_ok-variable.ensures.name (c.in_ok-variable.ensures.sort ∙ c.range.ensures)
    c.in_ok-next.ensures c.loop-constant.invariant

pub returns : goal.returns
returns c =
    variables_all c.loop-constant.coded c.loop-constant.next c.loop-constant.constant-index c.args.constants.now
    (map written_variable (variables_for c.args.letters c.args.constants.now))
    (omega (arith, c.loop-constant-test.false))
    c.loop-constant.invariant
