use Rattle.std.proofs.Common.{◌++◌, IfSome, subst, sym}
use Rattle.std.proofs.lemmas.Result.{err_from_is_err_and}
use Rattle.larch_sorts_signature.specs.SortsCountsCounts.{AreRead}
use Rattle.larch_sorts_signature.specs.SortsMeaningParts.{parts}
use Rattle.larch_sorts_signature.specs.SortsMeaningRead.{unread_in}
use Rattle.larch_sorts_signature.specs.SortsMeaningRefusal.{Unread}
use Rattle.larch_sorts.proofs.ToldByCounts.{second_unread}
use Rattle.larch_sorts_signature.proofs.SortsMeaningUnread.{unread_first}
use Rattle.larch_sorts.proofs.counted.counts_of_both.Goals as goal

pub returns-in_err-lefts-clause-unread : goal.returns-in_err-lefts-clause-unread
returns-in_err-lefts-clause-unread c =
    let p = err_from_is_err_and c.from_residual.result c.from_residual.ensures.1 in
    rw (p.1, p.2)
    (λ fs are. unread_first fs c.args.scope.now c.in_err-lefts.field-0.0 (parts c.args.left.now)
    (parts c.args.right.now) (c.in_err-lefts.ensures.unread fs are))

pub returns-in-Err-clause-unread : goal.returns-in-Err-clause-unread
returns-in-Err-clause-unread c = λ fs are.
    subst (λ r. Unread r (unread_in fs c.args.scope.now (parts c.args.left.now ++ parts c.args.right.now)))
    (sym c.let_go-in-Err.ensures)
    (second_unread fs c.args.scope.now c.in-Err.refusal c.args.left.now c.args.right.now
    (subst (λ o. IfSome o (λ x. AreRead c.args.numbers.now c.args.scope.now (parts c.args.left.now))) c.in-Some.is
    c.in_ok-lefts.ensures.read fs are)
    (c.in-Err.ensures.unread fs are))
