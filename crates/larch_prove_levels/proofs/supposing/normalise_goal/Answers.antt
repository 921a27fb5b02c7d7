use Rattle.larch_prove_boxes.proofs.DeriveGrowth.{known_right}
use Rattle.larch_prove_levels.proofs.supposing.normalise_goal.Goals as goal

pub normal_goal-requires-clause-known : goal.normal_goal-requires-clause-known
normal_goal-requires-clause-known c = known_right _ _ _ _ c.requires.way
