use Rattle.std.proofs.Common.{sym, subst}
use Rattle.std.proofs.lemmas.Result.{err_from_is_err_and}
use Rattle.larch_sorts_signature.specs.SortsMeaningFound.{Tells}
use Rattle.larch_sorts.specs.Sides.{ReadsSides}
use Rattle.larch_sorts.proofs.SidesTold.{left_unread, right_unread, formula_tells, sides_tell, sides_read}
use Rattle.larch_sorts.proofs.read.sides_by_tables.Goals as goal

pub returns-in_err-left-clause-unread : goal.returns-in_err-left-clause-unread
returns-in_err-left-clause-unread c =
    let p = err_from_is_err_and c.from_residual.result c.from_residual.ensures.1 in
    rw (p.1, p.2) (left_unread c.args.signature.now c.args.scope.now c.in_err-left.field-0.0 c.args.raw.now
    c.in_err-left.ensures.unread)

pub returns-in-None-clause-tells : goal.returns-in-None-clause-tells
returns-in-None-clause-tells c =
    subst (λ found. Tells found (ReadsSides c.args.signature.now c.args.scope.now c.args.raw.now))
    (sym c.in_ok-found-in-None.ensures)
    (formula_tells c.args.signature.now c.args.scope.now c.args.raw.now c.in_ok-left.left.found.value.entries
    c.in-None.is c.in_ok-left.ensures.tells)

pub returns-in_err-right-in-Some-clause-unread : goal.returns-in_err-right-in-Some-clause-unread
returns-in_err-right-in-Some-clause-unread c =
    let p =
    err_from_is_err_and c.from_residual-in_err-right-in-Some.result
    c.from_residual-in_err-right-in-Some.ensures.1 in
    rw (p.1, p.2)
    (right_unread c.args.signature.now c.args.scope.now c.in_err-right-in-Some.field-0.0 c.args.raw.now c.in-Some.right
    c.in-Some.is c.in_ok-left.ensures.read c.in_err-right-in-Some.ensures.unread)

pub returns-clause-tells : goal.returns-clause-tells
returns-clause-tells c =
    sides_tell c.args.signature.now c.args.scope.now c.args.raw.now c.in-Some.right
    c.in_ok-left.left.found.value.entries c.in_ok-right-in-Some.right.found.value.entries
    c.in_ok-found-in-Some.found c.in-Some.is c.in_ok-found-in-Some.ensures c.in_ok-left.ensures.tells
    c.in_ok-right-in-Some.ensures.tells

pub returns-clause-read : goal.returns-clause-read
returns-clause-read c =
    sides_read c.args.signature.now c.args.scope.now c.args.raw.now c.in-Some.right c.in-Some.is
    c.in_ok-left.ensures.read c.in_ok-right-in-Some.ensures.read
