use Rattle.std.proofs.Common.{arith, subst, sym}
use Rattle.larch_methods.proofs.Observing.{ObservedSoFar, observed_all, observed_at, observed_first, observed_last}
use Rattle.larch_methods.proofs.Observing.{observed_refused}
use Rattle.larch_methods.proofs.partition.push_all_observed.Goals as goal

pub loop-observed-init : goal.loop-observed-init
loop-observed-init c l r ws g h o =
    subst (ObservedSoFar c.args.builder.now c.args.builder.now l r ws c.args.boxes.now) (sym c.new-lines.ensures)
    (observed_first c.args.builder.now l r ws c.args.boxes.now o)

pub loop-observed-preserved : goal.loop-observed-preserved
loop-observed-preserved c l r ws g h o =
    observed_at _ _ _ l r ws c.args.boxes.now c.loop-observed.observed-index c.observed-item.result
    c.loop-observed.lines _ c.in_ok-line.line c.loop-observed-test.true c.observed-item.is c.in_ok-push.ensures.ok
    (c.loop-observed.invariant l r ws g h o) (λ w k. c.in_ok-line.ensures.shows l r w g h k)
    (λ w k. c.in_ok-line.ensures.extends l r w g h k)

pub returns-in_err-line-clause-extends : goal.returns-in_err-line-clause-extends
returns-in_err-line-clause-extends c l r ws g h o =
    observed_refused _ _ _ l r ws c.args.boxes.now c.loop-observed.observed-index c.observed-item.result
    c.loop-observed.lines c.loop-observed-test.true c.observed-item.is (c.loop-observed.invariant l r ws g h o)
    (λ w k. c.in_err-line.ensures.extends l r w g h k)

pub returns-in_err-push-clause-extends : goal.returns-in_err-push-clause-extends
returns-in_err-push-clause-extends c l r ws g h o =
    observed_refused _ _ _ l r ws c.args.boxes.now c.loop-observed.observed-index c.observed-item.result
    c.loop-observed.lines c.loop-observed-test.true c.observed-item.is (c.loop-observed.invariant l r ws g h o)
    (λ w k. c.in_ok-line.ensures.extends l r w g h k)

pub returns-clause-shows : goal.returns-clause-shows
returns-clause-shows c l r ws g h o =
    observed_last _ _ l r ws _
    (observed_all _ _ l r ws c.args.boxes.now c.loop-observed.observed-index c.loop-observed.lines
    (omega (arith, c.loop-observed-test.false)) (c.loop-observed.invariant l r ws g h o))

pub returns-clause-extends : goal.returns-clause-extends
returns-clause-extends c l r ws g h o = let k = c.loop-observed.invariant l r ws g h o in k.extends
