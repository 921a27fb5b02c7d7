use Rattle.std.proofs.Common.{IfSome, subst}
use Rattle.larch_sorts_signature.specs.SortsMeaningReadings.{ReadsAt}
use Rattle.larch_sorts.proofs.ToldByCounts.{sides_picked}
use Rattle.larch_sorts.proofs.counted.picked_both.Goals as goal

pub returns : goal.returns
returns c =
    sides_picked c.args.signature.now c.args.scope.now c.args.left.now c.args.right.now c.in-Some-sort_met.sort.now
    c.in-Some-2.left c.in-Some-3.right
    (subst (λ o. IfSome o (ReadsAt c.args.signature.now c.args.scope.now c.args.left.now c.in-Some-sort_met.sort.now))
    c.in-Some-2.is c.in_ok-left.ensures)
    (subst (λ o. IfSome o (ReadsAt c.args.signature.now c.args.scope.now c.args.right.now c.in-Some-sort_met.sort.now))
    c.in-Some-3.is c.in_ok-right.ensures)
