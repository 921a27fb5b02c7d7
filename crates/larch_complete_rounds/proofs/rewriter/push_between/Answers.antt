use Rattle.larch_derive.proofs.Growth.{extends_same, extends_trans, stays_said}
use Rattle.larch_complete_rounds.proofs.rewriter.push_between.Goals as goal

pub returns-in_err-number-clause-extends : goal.returns-in_err-number-clause-extends
returns-in_err-number-clause-extends c l k r q h i j =
    let x = c.in_ok-back.ensures.extends l k h in
    let y = c.in_ok-half.ensures.extends k l r (c.in_ok-back.ensures.says l k h) (stays_said _ _ _ _ x i) in
    extends_trans _ _ _ (extends_trans _ _ _ x y) (extends_same _ _ c.in_err-number.ensures.err)

pub returns-clause-says : goal.returns-clause-says
returns-clause-says c l k r q h i j =
    let x = c.in_ok-back.ensures.extends l k h in
    let s = c.in_ok-back.ensures.says l k h in
    let y = c.in_ok-half.ensures.extends k l r s (stays_said _ _ _ _ x i) in
    c.in_ok-number.ensures.says k r q (c.in_ok-half.ensures.says k l r s (stays_said _ _ _ _ x i))
    (stays_said _ _ _ _ y (stays_said _ _ _ _ x j))

pub returns-clause-extends : goal.returns-clause-extends
returns-clause-extends c l k r q h i j =
    let x = c.in_ok-back.ensures.extends l k h in
    let s = c.in_ok-back.ensures.says l k h in
    let y = c.in_ok-half.ensures.extends k l r s (stays_said _ _ _ _ x i) in
    extends_trans _ _ _ (extends_trans _ _ _ x y)
    (c.in_ok-number.ensures.extends k r q (c.in_ok-half.ensures.says k l r s (stays_said _ _ _ _ x i))
    (stays_said _ _ _ _ y (stays_said _ _ _ _ x j)))
