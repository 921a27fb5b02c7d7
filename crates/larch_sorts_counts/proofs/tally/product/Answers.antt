use Rattle.std.proofs.Common.{◌∙◌, ◌+◌, ap, drop, get_or, map, refl, sym}
use Rattle.larch_sorts_counts.specs.Count.{count_at, product, times}
use Rattle.larch_sorts_counts.specs.Counted.{counts_in}
use Rattle.larch_sorts_counts.proofs.Products.{product_more, product_never}
use Rattle.larch_sorts_counts.proofs.tally.product.Goals as goal

pub returns-then-arguments-numbers : goal.returns-then-arguments-numbers
returns-then-arguments-numbers c =
    product_never counts_in c.args.arguments.now c.args.numbers.now c.if-arguments-numbers.true

pub returns-in-Never : goal.returns-in-Never
returns-in-Never c =
    ap (λ d. times d (product (drop (c.loop-i.i + 1) (map counts_in c.args.arguments.now))
    (drop (c.loop-i.i + 1) c.args.numbers.now))) (sym c.in-Never.is)
    ∙ product_more counts_in c.args.arguments.now c.args.numbers.now c.loop-i.i c.index-arguments-i.result
    (get_or c.args.numbers.now c.loop-i.i 0) c.loop-i.product c.count_at-count.result
    c.times-product.result c.if-arguments-numbers.false c.loop-i-test.true c.index-arguments-i.is refl
    (c.count_at-count.ensures
    ∙ ap (λ x. count_at (counts_in x) (get_or c.args.numbers.now c.loop-i.i 0)) (sym c.index-arguments-i.is))
    c.times-product.ensures c.loop-i.invariant

pub loop-i-preserved : goal.loop-i-preserved
loop-i-preserved c =
    product_more counts_in c.args.arguments.now c.args.numbers.now c.loop-i.i c.index-arguments-i.result
    (get_or c.args.numbers.now c.loop-i.i 0) c.loop-i.product c.count_at-count.result
    c.times-product.result c.if-arguments-numbers.false c.loop-i-test.true c.index-arguments-i.is refl
    (c.count_at-count.ensures
    ∙ ap (λ x. count_at (counts_in x) (get_or c.args.numbers.now c.loop-i.i 0)) (sym c.index-arguments-i.is))
    c.times-product.ensures c.loop-i.invariant
