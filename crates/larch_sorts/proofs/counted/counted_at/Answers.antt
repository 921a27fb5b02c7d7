use Rattle.std.proofs.Common.{◌∙◌, ◌<◌, IfSome, ap, arith, length, subst, sym}
use Rattle.larch_sorts_signature.specs.SortsCountsCount.{count_at}
use Rattle.larch_sorts_signature.specs.SortsCountsCounted.{counts_in}
use Rattle.larch_sorts_signature.specs.SortsCountsCounts.{AreCounts}
use Rattle.larch_sorts_signature.specs.SortsMeaningReadings.{ReadsAt}
use Rattle.larch_sorts_signature.specs.SortsCountsNumbers.{number_of}
use Rattle.larch_sorts_signature.specs.SortsCountsCountCount.TheVariants.{Never, Often, Once}
use Rattle.larch_sorts_signature.proofs.SortsCountsCounting.{count_once}
use Rattle.larch_sorts_signature.proofs.SortsCountsCountsTold.{count_told}
use Rattle.larch_sorts.proofs.counted.counted_at.Goals as goal

pub returns-in-Never-clause-tells : goal.returns-in-Never-clause-tells
returns-in-Never-clause-tells c =
    let under : number_of c.in-Some.numbers.now.sorts.keys c.args.sort.now < length c.in-Some.numbers.now.sorts.keys =
    let over = c.if-len-number.false in let a = c.len.ensures in let b = c.number-number.ensures in omega arith in
    count_told c.in-Some.numbers.now c.args.signature.now c.args.scope.now c.args.raw.now
    (counts_in c.in-Some-2.counted) c.args.sort.now Never c.in-Some.ensures
    (subst (λ o. IfSome o (λ x. AreCounts c.in-Some.numbers.now c.args.scope.now c.args.raw.now (counts_in x)))
    c.in-Some-2.is c.in_ok-counted.ensures.counts) under
    (sym c.in-Never.is ∙ c.count_at.ensures
    ∙ ap (count_at (counts_in c.in-Some-2.counted)) c.number-number.ensures)

pub returns-in-Often-clause-tells : goal.returns-in-Often-clause-tells
returns-in-Often-clause-tells c =
    let under : number_of c.in-Some.numbers.now.sorts.keys c.args.sort.now < length c.in-Some.numbers.now.sorts.keys =
    let over = c.if-len-number.false in let a = c.len.ensures in let b = c.number-number.ensures in omega arith in
    count_told c.in-Some.numbers.now c.args.signature.now c.args.scope.now c.args.raw.now
    (counts_in c.in-Some-2.counted) c.args.sort.now Often c.in-Some.ensures
    (subst (λ o. IfSome o (λ x. AreCounts c.in-Some.numbers.now c.args.scope.now c.args.raw.now (counts_in x)))
    c.in-Some-2.is c.in_ok-counted.ensures.counts) under
    (sym c.in-Often.is ∙ c.count_at.ensures
    ∙ ap (count_at (counts_in c.in-Some-2.counted)) c.number-number.ensures)

pub returns-clause-tells : goal.returns-clause-tells
returns-clause-tells c =
    let under : number_of c.in-Some.numbers.now.sorts.keys c.args.sort.now < length c.in-Some.numbers.now.sorts.keys =
    let over = c.if-len-number.false in let a = c.len.ensures in let b = c.number-number.ensures in omega arith in
    count_once (ReadsAt c.args.signature.now c.args.scope.now c.args.raw.now c.args.sort.now) c.in-Some-3.reading
    (count_told c.in-Some.numbers.now c.args.signature.now c.args.scope.now c.args.raw.now
    (counts_in c.in-Some-2.counted) c.args.sort.now Once c.in-Some.ensures
    (subst (λ o. IfSome o (λ x. AreCounts c.in-Some.numbers.now c.args.scope.now c.args.raw.now (counts_in x)))
    c.in-Some-2.is c.in_ok-counted.ensures.counts) under
    (sym c.in-Once.is ∙ c.count_at.ensures
    ∙ ap (count_at (counts_in c.in-Some-2.counted)) c.number-number.ensures))
    (subst (λ o. IfSome o (ReadsAt c.args.signature.now c.args.scope.now c.args.raw.now c.args.sort.now)) c.in-Some-3.is
    c.in_ok-reading-in-Once.ensures)
