use Rattle.larch_prove_invariant.proofs.Held.{extra_opened}
use Rattle.larch_prove_invariant.proofs.levels.extra_boxes_are_opened.Goals as goal

pub returns : goal.returns
returns c = extra_opened
