use Rattle.std.proofs.Common.{◌∙◌, IfSome, Some, ap, refl, subst}
use Rattle.larch_sorts_signature.specs.SortsCountsCounted.{counts_in}
use Rattle.larch_sorts_signature.specs.SortsCountsCounts.{AreCounts}
use Rattle.larch_sorts.specs.Sides.{ReadBoth}
use Rattle.larch_sorts_signature.specs.SortsCountsCountCount.TheVariants.{Never, Often, Once}
use Rattle.larch_sorts_signature.proofs.SortsCountsCounting.{count_once}
use Rattle.larch_sorts.proofs.ToldByCounts.{met_told}
use Rattle.larch_sorts.proofs.counted.counted_both.Goals as goal

pub returns-in-Some-Never-clause-tells : goal.returns-in-Some-Never-clause-tells
returns-in-Some-Never-clause-tells c =
    let counts =
    subst
    (λ o. IfSome o (λ b. AreCounts c.in-Some.numbers.now c.args.scope.now c.args.left.now (counts_in b.left)
    × AreCounts c.in-Some.numbers.now c.args.scope.now c.args.right.now (counts_in b.right)))
    c.in-Some-2.is c.in_ok-both.ensures.counts in
    met_told c.in-Some.numbers.now c.args.signature.now c.args.scope.now c.args.left.now c.args.right.now
    (counts_in c.in-Some-2.both.left)
    (counts_in c.in-Some-2.both.right) (counts_in c.in-Some-2.both.left)
    (counts_in c.in-Some-2.both.right)
    c.len.result c.meeting.result Never c.in-Some.ensures counts.0 counts.1
    refl refl c.len.ensures
    (c.in-Some-Never.is ∙ ap Some c.in-Some-Never.field-0-is) c.meeting.ensures

pub returns-in-Some-Often-clause-tells : goal.returns-in-Some-Often-clause-tells
returns-in-Some-Often-clause-tells c =
    let counts =
    subst
    (λ o. IfSome o (λ b. AreCounts c.in-Some.numbers.now c.args.scope.now c.args.left.now (counts_in b.left)
    × AreCounts c.in-Some.numbers.now c.args.scope.now c.args.right.now (counts_in b.right)))
    c.in-Some-2.is c.in_ok-both.ensures.counts in
    met_told c.in-Some.numbers.now c.args.signature.now c.args.scope.now c.args.left.now c.args.right.now
    (counts_in c.in-Some-2.both.left)
    (counts_in c.in-Some-2.both.right) (counts_in c.in-Some-2.both.left)
    (counts_in c.in-Some-2.both.right)
    c.len.result c.meeting.result Often c.in-Some.ensures counts.0 counts.1
    refl refl c.len.ensures
    (c.in-Some-Often.is ∙ ap Some c.in-Some-Often.field-0-is) c.meeting.ensures

pub returns-clause-tells : goal.returns-clause-tells
returns-clause-tells c =
    let counts =
    subst
    (λ o. IfSome o (λ b. AreCounts c.in-Some.numbers.now c.args.scope.now c.args.left.now (counts_in b.left)
    × AreCounts c.in-Some.numbers.now c.args.scope.now c.args.right.now (counts_in b.right)))
    c.in-Some-2.is c.in_ok-both.ensures.counts in
    count_once (ReadBoth c.args.signature.now c.args.scope.now c.args.left.now c.args.right.now) c.in-Some-3.sides
    (met_told c.in-Some.numbers.now c.args.signature.now c.args.scope.now c.args.left.now c.args.right.now
    (counts_in c.in-Some-2.both.left)
    (counts_in c.in-Some-2.both.right) (counts_in c.in-Some-2.both.left)
    (counts_in c.in-Some-2.both.right)
    c.len.result c.meeting.result Once c.in-Some.ensures counts.0 counts.1
    refl refl c.len.ensures
    (c.in-Some-Once.is ∙ ap Some c.in-Some-Once.field-0-is) c.meeting.ensures)
    (subst (λ o. IfSome o (ReadBoth c.args.signature.now c.args.scope.now c.args.left.now c.args.right.now))
    c.in-Some-3.is c.in_ok-sides-in-Some-Once.ensures)
