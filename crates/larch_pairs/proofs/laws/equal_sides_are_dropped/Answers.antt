use Rattle.larch_pairs.proofs.Asking.{dropped}
use Rattle.larch_pairs.proofs.laws.equal_sides_are_dropped.Goals as goal

pub returns : goal.returns
returns c = dropped
