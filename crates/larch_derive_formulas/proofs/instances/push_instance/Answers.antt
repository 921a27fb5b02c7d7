use Rattle.larch_derive_lines.proofs.DeriveGrowth.{extends_same, extends_trans}
use Rattle.larch_derive_formulas.proofs.Rows.{instance_extends, instance_says, row_extends}
use Rattle.larch_derive_formulas.proofs.instances.push_instance.Goals as goal

pub returns-in_err-number-clause-extends : goal.returns-in_err-number-clause-extends
returns-in_err-number-clause-extends c l r h =
    extends_trans _ _ _ (row_extends _ _ c.args.instance l r h c.in_ok-line.ensures.extends)
    (extends_same _ _ c.in_err-number.ensures.err)

pub returns-clause-says : goal.returns-clause-says
returns-clause-says c l r h =
    instance_says _ _ _ _ _ c.args.instance l r h c.in_ok-line.ensures.says c.in_ok-line.ensures.extends
    c.in_ok-number.ensures.says

pub returns-clause-extends : goal.returns-clause-extends
returns-clause-extends c l r h =
    instance_extends _ _ _ _ c.args.instance l r h c.in_ok-line.ensures.says c.in_ok-line.ensures.extends
    c.in_ok-number.ensures.extends
