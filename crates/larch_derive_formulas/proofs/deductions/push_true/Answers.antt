use Rattle.larch_derive_lines.specs.CalculusFormula.{falsity}
use Rattle.larch_term.specs.Truth.{truth}
use Rattle.larch_derive_formulas.proofs.Deduced.{not_false}
use Rattle.larch_derive_formulas.proofs.deductions.push_true.Goals as goal

pub returns-in_err-number-clause-extends : goal.returns-in_err-number-clause-extends
returns-in_err-number-clause-extends c e =
    c.in_err-number.ensures.extends falsity truth e (not_false _ _ c.args.term.now falsity e)

pub returns-clause-says : goal.returns-clause-says
returns-clause-says c e =
    c.in_ok-number.ensures.says falsity truth e (not_false _ _ c.args.term.now falsity e)

pub returns-clause-extends : goal.returns-clause-extends
returns-clause-extends c e =
    c.in_ok-number.ensures.extends falsity truth e (not_false _ _ c.args.term.now falsity e)
