use Rattle.std.proofs.Common.{sym}
use Rattle.larch_term.specs.Truth.{truth}
use Rattle.larch_derive.proofs.Growth.{extends_same, extends_trans, stays_said}
use Rattle.larch_methods.proofs.Joining.{both_settles}
use Rattle.larch_methods.proofs.Sharing.{said_left}
use Rattle.larch_methods.proofs.conjunction.push_both.Goals as goal

pub returns-in_err-same-clause-extends : goal.returns-in_err-same-clause-extends
returns-in_err-same-clause-extends c t u e f k h m =
    c.in_err-same.ensures.extends _ (both_settles _ _ t u _ _ e f k m)

pub returns-in_err-shown-clause-extends : goal.returns-in_err-shown-clause-extends
returns-in_err-shown-clause-extends c t u e f k h m =
    extends_trans _ _ _ (c.in_ok-same.ensures.extends _ (both_settles _ _ t u _ _ e f k m))
    (extends_same _ _ c.in_err-shown.ensures.err)

pub returns-clause-says : goal.returns-clause-says
returns-clause-says c t u e f k h m =
    let s = both_settles _ _ t u _ _ e f k m in
    let x = c.in_ok-same.ensures.extends _ s in
    c.in_ok-shown.ensures.says _ _ truth (c.in_ok-same.ensures.says _ s)
    (said_left _ _ _ _ truth (sym f) (stays_said _ _ _ _ x h))

pub returns-clause-extends : goal.returns-clause-extends
returns-clause-extends c t u e f k h m =
    let s = both_settles _ _ t u _ _ e f k m in
    let x = c.in_ok-same.ensures.extends _ s in
    extends_trans _ _ _ x (c.in_ok-shown.ensures.extends _ _ truth (c.in_ok-same.ensures.says _ s)
    (said_left _ _ _ _ truth (sym f) (stays_said _ _ _ _ x h)))
