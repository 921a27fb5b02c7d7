use Rattle.larch_prove_invariant.proofs.Left.{idle_stands, method_left, stands_grow}
use Rattle.larch_prove_invariant.proofs.ends.levels_are_left.Goals as goal

pub returns : goal.returns
returns c = record { idle = idle_stands; method = method_left; grows = stands_grow }
