use Rattle.std.proofs.Common.{◌∙◌, Some, Ok, Err, sym, ap}
use Rattle.std.proofs.lemmas.Result.{err_from_is_err_and}
use Rattle.larch_base.specs.declared.code.Code.TheVariants.{NoReading}
use Rattle.larch_sorts_signature.specs.SortsMeaningFaults.{fault}
use Rattle.larch_sorts_signature.proofs.SortsMeaningAnswers.{decided}
use Rattle.larch_sorts.proofs.SidesAnswers.{as_statement, equation_found}
use Rattle.larch_sorts_signature.proofs.SortsMeaningReadAnswers.{equation_unread_told}
use Rattle.larch_sorts.proofs.read.by_sides.Goals as goal

pub returns-in-None : goal.returns-in-None
returns-in-None c =
    equation_found c.args.signature.now c.args.scope.now c.args.raw.now c.in_ok-sides_of.field-0 c.requires
    c.in_ok-sides_of.ensures.read c.in_ok-sides_of.ensures.tells
    ∙ ap (λ found. decided c.args.raw.now (as_statement found)) c.in-None.is
    ∙ ap (λ pos. Err (fault NoReading pos)) (sym c.equation_head.ensures)

pub returns-in-Some-Several : goal.returns-in-Some-Several
returns-in-Some-Several c =
    equation_found c.args.signature.now c.args.scope.now c.args.raw.now c.in_ok-sides_of.field-0 c.requires
    c.in_ok-sides_of.ensures.read c.in_ok-sides_of.ensures.tells
    ∙ ap (λ found. decided c.args.raw.now (as_statement found))
    (c.in-Some-Several.is ∙ ap Some c.in-Some-Several.field-0-is)

pub returns-in_err-sides_of : goal.returns-in_err-sides_of
returns-in_err-sides_of c =
    let p = err_from_is_err_and c.from_residual.result c.from_residual.ensures.1 in
    rw (p.1, p.2)
    (equation_unread_told c.args.signature.now c.args.scope.now c.args.raw.now c.in_err-sides_of.field-0.0 c.requires
    c.in_err-sides_of.ensures.unread)

pub returns-in_ok-statement-in-Some-One : goal.returns-in_ok-statement-in-Some-One
returns-in_ok-statement-in-Some-One c =
    equation_found c.args.signature.now c.args.scope.now c.args.raw.now c.in_ok-sides_of.field-0 c.requires
    c.in_ok-sides_of.ensures.read c.in_ok-sides_of.ensures.tells
    ∙ ap (λ found. decided c.args.raw.now (as_statement found)) (c.in-Some-One.is ∙ ap Some c.in-Some-One.field-0-is)
    ∙ ap Ok (sym c.in_ok-statement-in-Some-One.ensures)
