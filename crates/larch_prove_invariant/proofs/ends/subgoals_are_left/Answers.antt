use Rattle.larch_prove_invariant.proofs.Entrances.{box_left, line_left}
use Rattle.larch_prove_invariant.proofs.ends.subgoals_are_left.Goals as goal

pub returns : goal.returns
returns c = record { boxed = box_left; bare = line_left }
