use Rattle.larch_derive_lines.specs.CalculusFormula.{negation}
use Rattle.larch_derive_lines.proofs.DeriveGrowth.{extends_trans}
use Rattle.larch_derive_formulas.proofs.deductions.push_denied.Goals as goal

pub returns-in_err-denied-clause-extends : goal.returns-in_err-denied-clause-extends
returns-in_err-denied-clause-extends c f done rest t u h p e k =
    c.in_err-denied.ensures.extends f done rest t u (negation c.args.wanted.now) h p e k

pub returns-in_err-number-clause-extends : goal.returns-in_err-number-clause-extends
returns-in_err-number-clause-extends c f done rest t u h p e k =
    extends_trans _ _ _ (c.in_ok-denied.ensures.extends f done rest t u (negation c.args.wanted.now) h p e k)
    (c.in_err-number.ensures.extends (c.in_ok-denied.ensures.says f done rest t u (negation c.args.wanted.now) h p e k))

pub returns-clause-says : goal.returns-clause-says
returns-clause-says c f done rest t u h p e k =
    c.in_ok-number.ensures.says (c.in_ok-denied.ensures.says f done rest t u (negation c.args.wanted.now) h p e k)

pub returns-clause-extends : goal.returns-clause-extends
returns-clause-extends c f done rest t u h p e k =
    extends_trans _ _ _ (c.in_ok-denied.ensures.extends f done rest t u (negation c.args.wanted.now) h p e k)
    (c.in_ok-number.ensures.extends (c.in_ok-denied.ensures.says f done rest t u (negation c.args.wanted.now) h p e k))
