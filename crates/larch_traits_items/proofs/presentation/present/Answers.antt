use Rattle.std.proofs.Common.{sym, ap, ◌∙◌}
use Rattle.std.proofs.lemmas.Result.{err_from_is_err_and}
use Rattle.larch_traits_items.specs.Declarations.{declared_operators}
use Rattle.larch_traits_items.specs.Refusal.{cause}
use Rattle.larch_traits_items.proofs.Presented.{presented_ok, presented_refused}
use Rattle.larch_traits_items.proofs.presentation.present.Goals as goal

pub returns-in_err-statements : goal.returns-in_err-statements
returns-in_err-statements c =
    let p = err_from_is_err_and c.from_residual-in_err-statements.result c.from_residual-in_err-statements.ensures.1 in
    rw (p.1, p.2)
    (presented_refused (cause c.in_err-statements.field-0.0) c.args.raw.now c.in_ok-operators.operators
    c.in_ok-signature.signature c.as_slice-2.result.now
    (ap declared_operators (sym c.as_slice.ensures) ∙ c.in_ok-operators.ensures) c.in_ok-signature.ensures
    c.as_slice-2.ensures c.in_err-statements.ensures)

pub returns : goal.returns
returns c =
    presented_ok c.args.raw.now c.in_ok-operators.operators c.in_ok-signature.signature
    c.into_operators-operators.result c.as_slice-2.result.now
    c.in_ok-statements.statements (ap declared_operators (sym c.as_slice.ensures) ∙ c.in_ok-operators.ensures)
    c.in_ok-signature.ensures
    c.into_operators-operators.ensures c.as_slice-2.ensures c.in_ok-statements.ensures
