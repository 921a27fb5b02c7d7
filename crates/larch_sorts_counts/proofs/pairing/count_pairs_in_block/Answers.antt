-- Where nothing is paired the sum is none.
use Rattle.std.proofs.Common.{length, sym}
use Rattle.larch_sorts_counts.specs.Count.{together}
use Rattle.larch_sorts_counts.proofs.Spreading.{sum_none}
use Rattle.larch_sorts_counts.proofs.pairing.count_pairs_in_block.Goals as goal

pub returns-then-not-are_paired : goal.returns-then-not-are_paired
returns-then-not-are_paired c =
    sym (sum_none (together c.args.left.now c.args.right.now) (length c.args.left.now)
    (c.are_paired.ensures c.if-not-are_paired.true))
