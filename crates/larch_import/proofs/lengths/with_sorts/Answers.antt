use Rattle.std.proofs.Common.{◌∙◌}
use Rattle.larch_import_meaning.specs.Lengths.{with_sort}
use Rattle.larch_import.proofs.Longest.{one_more}
use Rattle.larch_import.proofs.lengths.with_sorts.Goals as goal

pub loop-sort-preserved : goal.loop-sort-preserved
loop-sort-preserved c =
    c.with_sort-most.ensures
    ∙ one_more with_sort c.args.most c.args.sorts.now c.loop-sort.sort-index c.sort-item.result c.loop-sort.most
    c.loop-sort-test.true c.sort-item.is c.loop-sort.invariant
