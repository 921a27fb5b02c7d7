use Rattle.larch_prove_invariant.proofs.Left.{leaving_closed, leaving_grows, leaving_opened, left_levels}
use Rattle.larch_prove_invariant.proofs.levels.boxes_are_closed.Goals as goal

pub returns : goal.returns
returns c = record { closed = leaving_closed; opened = leaving_opened; grows = leaving_grows; below = left_levels }
