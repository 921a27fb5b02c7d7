use Rattle.std.specs.Prelude.{[]}
use Rattle.std.proofs.Common.{arith, subst, sym}
use Rattle.larch_prove_boxes.proofs.Extras.{AreOpenSoFar, all_so_far, none_so_far, one_more_at}
use Rattle.larch_prove_boxes.proofs.constants.open_each.Goals as goal

pub loop-constant-init : goal.loop-constant-init
loop-constant-init c =
    subst (AreOpenSoFar c.args.builder.now c.args.builder.now c.args.constants.now []) (sym c.new-boxes.ensures)
    (none_so_far c.args.builder.now c.args.constants.now)

pub loop-constant-preserved : goal.loop-constant-preserved
loop-constant-preserved c =
    one_more_at _ _ _ c.args.constants.now c.loop-constant.constant-index c.constant-item.result _ _
    c.in_ok-opened.opened c.loop-constant-test.true c.constant-item.is c.in_ok-push.ensures.ok
    c.in_ok-opened.ensures.constants c.in_ok-opened.ensures.holds c.loop-constant.invariant

pub returns-clause-constants : goal.returns-clause-constants
returns-clause-constants c =
    let far = all_so_far _ _ c.args.constants.now c.loop-constant.constant-index c.loop-constant.boxes
    (omega (arith, c.loop-constant-test.false)) c.loop-constant.invariant in far.constants

pub returns-clause-holds : goal.returns-clause-holds
returns-clause-holds c =
    let far = all_so_far _ _ c.args.constants.now c.loop-constant.constant-index c.loop-constant.boxes
    (omega (arith, c.loop-constant-test.false)) c.loop-constant.invariant in far.holds
