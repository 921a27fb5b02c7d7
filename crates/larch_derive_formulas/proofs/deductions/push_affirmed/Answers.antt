use Rattle.larch_term.specs.Truth.{truth}
use Rattle.larch_derive_lines.proofs.DeriveGrowth.{extends_same, extends_trans}
use Rattle.larch_derive_formulas.proofs.Rows.{instance_as}
use Rattle.larch_derive_formulas.proofs.deductions.push_affirmed.Goals as goal

pub returns-in_err-reached-clause-extends : goal.returns-in_err-reached-clause-extends
returns-in_err-reached-clause-extends c f done rest t u v h p e k =
    c.in_err-reached.ensures.extends f done rest t u truth v
    (instance_as _ _ _ _ _ c.in_ok-first.ensures h) p e (instance_as _ _ _ _ _ c.in_ok-second.ensures k)

pub returns-in_err-number-clause-extends : goal.returns-in_err-number-clause-extends
returns-in_err-number-clause-extends c f done rest t u v h p e k =
    extends_trans _ _ _ (c.in_ok-reached.ensures.extends f done rest t u truth v
    (instance_as _ _ _ _ _ c.in_ok-first.ensures h) p e (instance_as _ _ _ _ _ c.in_ok-second.ensures k))
    (extends_same _ _ c.in_err-number.ensures.err)

pub returns-clause-says : goal.returns-clause-says
returns-clause-says c f done rest t u v h p e k =
    c.in_ok-number.ensures.says truth v
    (c.in_ok-reached.ensures.says f done rest t u truth v
    (instance_as _ _ _ _ _ c.in_ok-first.ensures h) p e (instance_as _ _ _ _ _ c.in_ok-second.ensures k))

pub returns-clause-extends : goal.returns-clause-extends
returns-clause-extends c f done rest t u v h p e k =
    extends_trans _ _ _ (c.in_ok-reached.ensures.extends f done rest t u truth v
    (instance_as _ _ _ _ _ c.in_ok-first.ensures h) p e (instance_as _ _ _ _ _ c.in_ok-second.ensures k))
    (c.in_ok-number.ensures.extends truth v
    (c.in_ok-reached.ensures.says f done rest t u truth v
    (instance_as _ _ _ _ _ c.in_ok-first.ensures h) p e (instance_as _ _ _ _ _ c.in_ok-second.ensures k)))
