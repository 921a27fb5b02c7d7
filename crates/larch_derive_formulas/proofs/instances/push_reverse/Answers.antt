use Rattle.larch_derive_lines.proofs.DeriveGrowth.{extends_same, extends_trans}
use Rattle.larch_derive_formulas.proofs.instances.push_reverse.Goals as goal

pub returns-in_err-line-clause-extends : goal.returns-in_err-line-clause-extends
returns-in_err-line-clause-extends c l r h =
    c.in_err-line.ensures.extends l r h

pub returns-in_err-number-clause-extends : goal.returns-in_err-number-clause-extends
returns-in_err-number-clause-extends c l r h =
    extends_trans _ _ _ (c.in_ok-line.ensures.extends l r h) (extends_same _ _ c.in_err-number.ensures.err)

pub returns-clause-says : goal.returns-clause-says
returns-clause-says c l r h =
    c.in_ok-number.ensures.says l r (c.in_ok-line.ensures.says l r h)

pub returns-clause-extends : goal.returns-clause-extends
returns-clause-extends c l r h =
    extends_trans _ _ _ (c.in_ok-line.ensures.extends l r h)
    (c.in_ok-number.ensures.extends l r (c.in_ok-line.ensures.says l r h))
