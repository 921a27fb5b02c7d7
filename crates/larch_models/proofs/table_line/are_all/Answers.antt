use Rattle.std.proofs.Common.{◌==◌, ◌*◌, ◌+◌, ◌≤◌, ◌^◌, ◌∙◌, ap, drop, arith}
use Rattle.larch_models_meaning.specs.FiniteModel.{argument_lists, last_among}
use Rattle.larch_models_meaning.specs.Standard.{standard_last}
use Rattle.larch_models.proofs.Counts.{lists_beyond, lists_end, lists_further, not_below}
use Rattle.larch_models.proofs.table_line.are_all.Goals as goal

pub returns-in_default : goal.returns-in_default
returns-in_default c =
    let large : 2 ^ 64 ≤ c.loop-sort.product * (c.from-values.result + 1) = not_below _ _ c.in_default.ensures in
    let fits = c.ranges.count in
    lists_beyond (standard_last (last_among c.args.sorts.now)) c.args.domain.now c.loop-sort.sort-index
    c.loop-sort.product c.from-values.result c.args.count c.sort-item.result c.loop-sort-test.true c.sort-item.is
    (c.from-values.ensures ∙ c.last_value.ensures) c.loop-sort.invariant (omega (arith, large, fits))

pub loop-sort-preserved : goal.loop-sort-preserved
loop-sort-preserved c =
    let last = standard_last (last_among c.args.sorts.now) in
    ap (λ k. k * argument_lists last (drop (c.loop-sort.sort-index + 1) c.args.domain.now)) c.in-Some.ensures.1
    ∙ lists_further last c.args.domain.now c.loop-sort.sort-index c.loop-sort.product c.from-values.result
    c.sort-item.result c.loop-sort-test.true c.sort-item.is (c.from-values.ensures ∙ c.last_value.ensures)
    ∙ c.loop-sort.invariant

pub returns : goal.returns
returns c =
    ap (λ k. c.args.count == k)
    (lists_end (standard_last (last_among c.args.sorts.now)) c.args.domain.now c.loop-sort.sort-index
    c.loop-sort.product c.loop-sort-test.false c.loop-sort.invariant)
