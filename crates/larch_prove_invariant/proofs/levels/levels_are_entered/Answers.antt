use Rattle.larch_prove_invariant.proofs.Held.{level_entered}
use Rattle.larch_prove_invariant.proofs.levels.levels_are_entered.Goals as goal

pub returns : goal.returns
returns c = level_entered
