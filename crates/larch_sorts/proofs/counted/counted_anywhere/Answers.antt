use Rattle.std.proofs.Common.{◌∙◌, IfSome, ap, length, subst, suc, sym}
use Rattle.larch_sorts_signature.specs.SortsCountsCount.{count_at, sum_to}
use Rattle.larch_sorts_signature.specs.SortsCountsCounted.{counts_in}
use Rattle.larch_sorts_signature.specs.SortsCountsCounts.{AreCounts}
use Rattle.larch_sorts_signature.specs.SortsMeaningReadings.{Reads}
use Rattle.larch_sorts_signature.specs.SortsCountsCountCount.TheVariants.{Never, Often, Once}
use Rattle.larch_sorts_signature.proofs.SortsCountsCounting.{count_once}
use Rattle.larch_sorts.proofs.ToldByCounts.{picked_reads}
use Rattle.larch_sorts_signature.proofs.SortsCountsCountsTold.{total_told}
use Rattle.larch_sorts.proofs.counted.counted_anywhere.Goals as goal

pub returns-in-Never-clause-tells : goal.returns-in-Never-clause-tells
returns-in-Never-clause-tells c =
    total_told c.in-Some.numbers.now c.args.signature.now c.args.scope.now c.args.raw.now
    (counts_in c.in-Some-2.counted) Never c.in-Some.ensures
    (subst (λ o. IfSome o (λ x. AreCounts c.in-Some.numbers.now c.args.scope.now c.args.raw.now (counts_in x)))
    c.in-Some-2.is c.in_ok-counted.ensures.counts)
    (sym c.in-Never.is ∙ c.total.ensures
    ∙ ap (λ n. sum_to (count_at (counts_in c.in-Some-2.counted)) (suc n)) c.len.ensures)

pub returns-in-Often-clause-tells : goal.returns-in-Often-clause-tells
returns-in-Often-clause-tells c =
    total_told c.in-Some.numbers.now c.args.signature.now c.args.scope.now c.args.raw.now
    (counts_in c.in-Some-2.counted) Often c.in-Some.ensures
    (subst (λ o. IfSome o (λ x. AreCounts c.in-Some.numbers.now c.args.scope.now c.args.raw.now (counts_in x)))
    c.in-Some-2.is c.in_ok-counted.ensures.counts)
    (sym c.in-Often.is ∙ c.total.ensures
    ∙ ap (λ n. sum_to (count_at (counts_in c.in-Some-2.counted)) (suc n)) c.len.ensures)

pub returns-clause-tells : goal.returns-clause-tells
returns-clause-tells c =
    count_once (Reads c.args.signature.now c.args.scope.now c.args.raw.now) c.in-Some-3.reading
    (total_told c.in-Some.numbers.now c.args.signature.now c.args.scope.now c.args.raw.now
    (counts_in c.in-Some-2.counted) Once c.in-Some.ensures
    (subst (λ o. IfSome o (λ x. AreCounts c.in-Some.numbers.now c.args.scope.now c.args.raw.now (counts_in x)))
    c.in-Some-2.is c.in_ok-counted.ensures.counts)
    (sym c.in-Once.is ∙ c.total.ensures
    ∙ ap (λ n. sum_to (count_at (counts_in c.in-Some-2.counted)) (suc n)) c.len.ensures))
    (picked_reads c.args.signature.now c.args.scope.now c.args.raw.now c.in-Some-sort_met.sort.now
    c.in_ok-reading-in-Once.field-0 c.in-Some-3.reading c.in-Some-3.is c.in_ok-reading-in-Once.ensures)
