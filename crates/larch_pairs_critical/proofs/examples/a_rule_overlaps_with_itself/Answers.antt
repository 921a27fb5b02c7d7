use Rattle.std.proofs.Common.{refl}
use Rattle.larch_pairs_critical.specs.Examples.{computing}
use Rattle.larch_pairs_critical.proofs.examples.a_rule_overlaps_with_itself.Goals as goal

pub returns : goal.returns
unfolding computing
returns c = refl
