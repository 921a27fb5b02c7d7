use Rattle.std.specs.Prelude.{refl}
use Rattle.larch_term.specs.Truth.{truth}
use Rattle.larch_calculus.specs.Formula.{falsity}
use Rattle.larch_derive.proofs.Growth.{extends_same, extends_trans, stays_said}
use Rattle.larch_methods.proofs.contradiction.push_contradicted.Goals as goal

pub returns-in_err-shown-clause-extends : goal.returns-in_err-shown-clause-extends
returns-in_err-shown-clause-extends c x g e o h =
    extends_trans _ _ _ (c.in_ok-supposed.ensures.extends x _ _ e o refl)
    (extends_same _ _ c.in_err-shown.ensures.err)

pub returns-clause-says : goal.returns-clause-says
returns-clause-says c x g e o h =
    let s = c.in_ok-supposed.ensures.extends x _ _ e o refl in
    c.in_ok-shown.ensures.says g falsity truth (c.in_ok-supposed.ensures.says x _ _ e o refl) (stays_said _ _ _ _ s h)

pub returns-clause-extends : goal.returns-clause-extends
returns-clause-extends c x g e o h =
    let s = c.in_ok-supposed.ensures.extends x _ _ e o refl in
    extends_trans _ _ _ s
    (c.in_ok-shown.ensures.extends g falsity truth (c.in_ok-supposed.ensures.says x _ _ e o refl)
    (stays_said _ _ _ _ s h))
