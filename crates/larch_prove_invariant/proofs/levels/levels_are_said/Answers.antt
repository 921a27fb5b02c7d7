use Rattle.larch_prove_invariant.proofs.Held.{current_said, facts_inside}
use Rattle.larch_prove_invariant.proofs.levels.levels_are_said.Goals as goal

pub returns : goal.returns
returns c = record { current = current_said; inside = facts_inside }
