use Rattle.std.proofs.Common.{◌∙◌}
use Rattle.larch_import_references.proofs.Pushing.{one_more}
use Rattle.larch_import_references.specs.Pairs.{sort_pair}
use Rattle.larch_import_references.proofs.pairs.sort_pairs.Goals as goal

pub loop-sort-preserved : goal.loop-sort-preserved
loop-sort-preserved c =
    c.in_ok-push.ensures.ok
    ∙ one_more (sort_pair c.args.by.now) c.loop-sort.pairs c.args.sorts.now c.loop-sort.sort-index c.sort-item.result
    c.in_ok-pair.pair c.loop-sort-test.true c.sort-item.is c.in_ok-pair.ensures c.loop-sort.invariant
