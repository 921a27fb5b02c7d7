use Rattle.larch_prove_invariant.proofs.LevelConstants.{levels_begun, levels_entered, levels_extra, levels_follow}
use Rattle.larch_prove_invariant.proofs.LevelConstants.{levels_grow, levels_left}
use Rattle.larch_prove_invariant.proofs.LevelConstants.{levels_more, levels_start, levels_worked}
use Rattle.larch_prove_invariant.proofs.constants.levels_keep_constants.Goals as goal

pub returns : goal.returns
returns c = record {
  starts = levels_start;
  grows = levels_grow;
  worked = levels_worked;
  made = levels_more;
  extra = levels_extra;
  begins = levels_begun;
  follows = levels_follow;
  enters = levels_entered;
  leaves = levels_left;
}
