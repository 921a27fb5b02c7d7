-- What counts have in common with themselves are the counts.
use Rattle.std.proofs.Common.{◌∙◌, ap₂}
use Rattle.larch_sorts_counts.specs.Count.{count_at, plus, together}
use Rattle.larch_sorts_counts.proofs.Counting.{times_same}
use Rattle.larch_sorts_counts.proofs.InCommon.{sum_same}
use Rattle.larch_sorts_counts.proofs.tally.total.Goals as goal

pub returns : goal.returns
returns c =
    c.plus.ensures
    ∙ ap₂ plus
    (c.common.ensures
    ∙ sum_same (together c.args.counts.now c.args.counts.now) (count_at c.args.counts.now) c.args.size
    (λ k l. times_same (count_at c.args.counts.now k)))
    c.count_at.ensures
