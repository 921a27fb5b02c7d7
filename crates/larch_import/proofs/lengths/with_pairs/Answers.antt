use Rattle.std.proofs.Common.{◌∙◌}
use Rattle.larch_import_meaning.specs.Lengths.{with_pair}
use Rattle.larch_import.proofs.Longest.{one_more}
use Rattle.larch_import.proofs.lengths.with_pairs.Goals as goal

pub loop-pair-preserved : goal.loop-pair-preserved
loop-pair-preserved c =
    c.with_sort-most.ensures
    ∙ one_more with_pair c.args.most c.args.pairs.now c.loop-pair.pair-index c.pair-item.result c.loop-pair.most
    c.loop-pair-test.true c.pair-item.is c.loop-pair.invariant
