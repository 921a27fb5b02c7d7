use Rattle.larch_prove_invariant.proofs.Held.{level_worked}
use Rattle.larch_prove_invariant.proofs.levels.lines_change_levels.Goals as goal

pub returns : goal.returns
returns c = level_worked
