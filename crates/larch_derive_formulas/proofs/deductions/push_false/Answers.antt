use Rattle.larch_derive_lines.specs.CalculusFormula.{falsity}
use Rattle.larch_term.specs.Truth.{truth}
use Rattle.larch_derive_formulas.proofs.Deduced.{not_true}
use Rattle.larch_derive_formulas.proofs.deductions.push_false.Goals as goal

pub returns-in_err-number-clause-extends : goal.returns-in_err-number-clause-extends
returns-in_err-number-clause-extends c e =
    c.in_err-number.ensures.extends truth falsity e (not_true _ _ c.args.term.now truth e)

pub returns-clause-says : goal.returns-clause-says
returns-clause-says c e =
    c.in_ok-number.ensures.says truth falsity e (not_true _ _ c.args.term.now truth e)

pub returns-clause-extends : goal.returns-clause-extends
returns-clause-extends c e =
    c.in_ok-number.ensures.extends truth falsity e (not_true _ _ c.args.term.now truth e)
