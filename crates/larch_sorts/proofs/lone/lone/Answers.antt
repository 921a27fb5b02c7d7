use Rattle.std.proofs.Common.{◌∙◌, Some, Ok, Err, sym, ap}
use Rattle.std.specs.Option.{option_copied}
use Rattle.std.proofs.lemmas.Result.{err_from_is_err_and}
use Rattle.larch_base.specs.declared.code.Code.TheVariants.{NoReading}
use Rattle.larch_sorts_signature.specs.SortsMeaningFaults.{fault}
use Rattle.larch_sorts_signature.proofs.SortsMeaningAnswers.{decided}
use Rattle.larch_sorts_signature.proofs.SortsMeaningReadAnswers.{term_unknown, term_unread_told, term_found}
use Rattle.larch_sorts.proofs.lone.lone.Goals as goal

pub returns-in-Some : goal.returns-in-Some
returns-in-Some c =
    term_unknown c.args.signature.now c.args.scope.now (option_copied c.args.sort) c.args.raw.now c.in-Some.pos
    (sym c.unknown_sort.ensures ∙ c.in-Some.is)

pub returns-in-None : goal.returns-in-None
returns-in-None c =
    term_found c.args.signature.now c.args.scope.now
    (option_copied c.args.sort) c.args.raw.now c.in_ok-lone_found.field-0
    (sym c.unknown_sort.ensures ∙ c.in_default.is)
    c.in_ok-lone_found.ensures.read c.in_ok-lone_found.ensures.tells
    ∙ ap (decided c.args.raw.now) c.in-None.is ∙ ap (λ pos. Err (fault NoReading pos)) (sym c.equation_head.ensures)

pub returns-in-Some-Several : goal.returns-in-Some-Several
returns-in-Some-Several c =
    term_found c.args.signature.now c.args.scope.now
    (option_copied c.args.sort) c.args.raw.now c.in_ok-lone_found.field-0
    (sym c.unknown_sort.ensures ∙ c.in_default.is)
    c.in_ok-lone_found.ensures.read c.in_ok-lone_found.ensures.tells
    ∙ ap (decided c.args.raw.now) (c.in-Some-Several.is ∙ ap Some c.in-Some-Several.field-0-is)

pub returns-in_err-lone_found : goal.returns-in_err-lone_found
returns-in_err-lone_found c =
    let p = err_from_is_err_and c.from_residual.result c.from_residual.ensures.1 in
    rw (p.1, p.2)
    (term_unread_told c.args.signature.now c.args.scope.now
    (option_copied c.args.sort) c.args.raw.now c.in_err-lone_found.field-0.0
    (sym c.unknown_sort.ensures ∙ c.in_default.is) c.in_err-lone_found.ensures.unread)

pub returns-in_ok-term-in-Some-One : goal.returns-in_ok-term-in-Some-One
returns-in_ok-term-in-Some-One c =
    term_found c.args.signature.now c.args.scope.now
    (option_copied c.args.sort) c.args.raw.now c.in_ok-lone_found.field-0
    (sym c.unknown_sort.ensures ∙ c.in_default.is)
    c.in_ok-lone_found.ensures.read c.in_ok-lone_found.ensures.tells
    ∙ ap (decided c.args.raw.now) (c.in-Some-One.is ∙ ap Some c.in-Some-One.field-0-is)
    ∙ ap Ok (sym c.in_ok-term-in-Some-One.ensures)
