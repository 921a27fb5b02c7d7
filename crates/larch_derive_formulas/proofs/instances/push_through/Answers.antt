use Rattle.larch_derive_lines.proofs.DeriveGrowth.{extends_same, extends_trans, stays_said}
use Rattle.larch_derive_formulas.proofs.instances.push_through.Goals as goal

pub returns-in_err-further-clause-extends : goal.returns-in_err-further-clause-extends
returns-in_err-further-clause-extends c s l r e h =
    c.in_err-further.ensures.extends l r h

pub returns-in_err-number-clause-extends : goal.returns-in_err-number-clause-extends
returns-in_err-number-clause-extends c s l r e h =
    extends_trans _ _ _ (c.in_ok-further.ensures.extends l r h) (extends_same _ _ c.in_err-number.ensures.err)

pub returns-clause-says : goal.returns-clause-says
returns-clause-says c s l r e h =
    c.in_ok-number.ensures.says s l r (stays_said _ _ _ _ (c.in_ok-further.ensures.extends l r h) e)
    (c.in_ok-further.ensures.says l r h)

pub returns-clause-extends : goal.returns-clause-extends
returns-clause-extends c s l r e h =
    extends_trans _ _ _ (c.in_ok-further.ensures.extends l r h)
    (c.in_ok-number.ensures.extends s l r (stays_said _ _ _ _ (c.in_ok-further.ensures.extends l r h) e)
    (c.in_ok-further.ensures.says l r h))
